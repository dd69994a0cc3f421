-- What a guest and a host can do to a device (01, "What the gateway hands over"). Nothing of the device stands here.
use Rattle.std.specs.Prelude.{List, ℕ}

-- "read, write, and (added by design) raise interrupt bits. Each read or write carries an outcome number k"
pub data Operation : Type 0 where
  Read : (k offset length : ℕ) → Operation
  Write : (k offset : ℕ) → (bytes : List ℕ) → Operation
  Raise : (bits : ℕ) → Operation
