-- The configuration block (01, The trace): "u64 base, size, memory; u32 type, features given, features, wildcard, MSI, page 0,
-- page 1, vectors, data queues, control size; 16 u16 sizes; u32 regions, u32 zero; u64 list address; 8 pairs of u64 offset,
-- length. Flags are set when not 0. The u32 zero isn't checked."
use Rattle.std.specs.Prelude.{Bool, not, List, ℕ, ◌+◌, ◌*◌, eqb, replicate}
use Rattle.words.specs.Lists.{each}
use Rattle.mmio_config.specs.Fresh.{max_regions, no_region}
use Rattle.mmio_config.specs.declared.Configuration.{Configuration}
use Rattle.mmio_config.specs.declared.Region.{Region}
use Rattle.trace.specs.Numbers.{half_at, word_at, long_at}
use Rattle.trace.specs.Form.{form, block_place}

abbrev pub flag_at : List ℕ → (at : ℕ) → Bool
flag_at s at = not (eqb (word_at s at) 0)

unfoldable pub sizes_at : List ℕ → List ℕ
sizes_at s = each (λ (i x : ℕ). half_at s (block_place + 64 + 2 * i)) (replicate form.sizes 0)

abbrev pub share_at : List ℕ → (i : ℕ) → Region
share_at s i = record { offset = long_at s (block_place + 112 + 16 * i); length = long_at s (block_place + 120 + 16 * i) }

unfoldable pub regions_at : List ℕ → List Region
regions_at s = each (λ (i : ℕ) (x : Region). share_at s i) (replicate max_regions no_region)

unfoldable pub block_at : List ℕ → Configuration
block_at s =
    record {
      base = long_at s block_place;
      size = long_at s (block_place + 8);
      memory = long_at s (block_place + form.memory);
      kind = word_at s (block_place + 24);
      given = flag_at s (block_place + 28);
      features = word_at s (block_place + 32);
      wildcard = flag_at s (block_place + 36);
      msi = flag_at s (block_place + 40);
      page0 = word_at s (block_place + 44);
      page1 = word_at s (block_place + 48);
      vectors = word_at s (block_place + 52);
      dataqueues = word_at s (block_place + 56);
      control = word_at s (block_place + 60);
      sizes = sizes_at s;
      regions = word_at s (block_place + 96);
      list = long_at s (block_place + 104);
      table = regions_at s;
    }
