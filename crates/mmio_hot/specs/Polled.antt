-- The polled registers, with one of them changed (01, The ladder of status; Registers; State reset).
use Rattle.std.specs.Prelude.{Bool, false, ℕ, ◌+◌}
use Rattle.words.specs.Pick.{pick}
use Rattle.words.specs.Bits.{bit}
use Rattle.mmio_hot.specs.declared.Hot.{Hot}

-- status bit FAILED set (virtio 1.2, 2.1)
abbrev pub failed : (status : ℕ) → ℕ
failed v = pick (bit 7 v) v (v + 128)

abbrev pub with_status : Hot → (status : ℕ) → Hot
with_status h v = record h { status = v }

abbrev pub with_mode : Hot → (msi : Bool) → Hot
with_mode h m = record h { msi = m }

-- the four selectors: 014, 024, 030, 0ac
abbrev pub selecting : Hot → (page ackpage queue region : ℕ) → Hot
selecting h p a q r = record h { page = p; ackpage = a; queue = q; region = r }

-- "selectors 014, 024, 030 zero; MSI off; doorbell gone .. Region selector and interrupt bits stay"
abbrev pub wiped_hot : Hot → Hot
wiped_hot h = record h { page = 0; ackpage = 0; queue = 0; doorbell = false; msi = false }
