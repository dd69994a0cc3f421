-- What the gateway hands over, refusals 2 to 6, and what a fresh device has of it (01, "What the gateway hands over").
use Rattle.std.specs.Prelude.{Option, Some, None, Result, Ok, Err, Bool, true, false, not, ◌||◌, ◌&&◌, List, ℕ, ◌+◌, ◌-◌, ◌^◌, eqb, ltb, get_or, replicate}
use Rattle.words.specs.Pick.{pick, below}
use Rattle.words.specs.Lists.{each}
use Rattle.words.specs.Refusals.{refusal_number}
use Rattle.words.specs.declared.Refusal.{Refusal}
use Rattle.words.specs.declared.Refusal.TheVariants.{WindowBase, QueueCount, QueueSize, VectorCount, RegionCount}
use Rattle.virtq.specs.Index.{max_queues}
use Rattle.virtq.specs.Fields.{fresh_queue, size_fit}
use Rattle.virtq.specs.declared.Queue.{Queue}
use Rattle.dragonball.specs.Vendor.{vendor_word, fresh_doorbell}
use Rattle.mmio_config.specs.declared.Configuration.{Configuration}
use Rattle.mmio_config.specs.declared.Config.{Config}
use Rattle.mmio_config.specs.declared.Region.{Region}
use Rattle.mmio_config.specs.declared.Vector.{Vector}
use Rattle.mmio_hot.specs.declared.Hot.{Hot}
use Rattle.mmio_config.specs.declared.Flags.{Flags}

-- how many vectors, and regions, the tables have room for (01, refusals 5 and 6)
abbrev pub max_vectors : ℕ
max_vectors = 32

abbrev pub max_regions : ℕ
max_regions = 8

-- "control 0 means none"
abbrev pub has_control : Configuration → Bool
has_control c = not (eqb c.control 0)

-- "queues, control included"
abbrev pub queue_count : Configuration → ℕ
queue_count c = c.dataqueues + pick (has_control c) 1 0

-- "a used maximum size is 0, above 32,768 or no power of two": it is not one that a queue of 32,768 may have
abbrev pub maximum_fit : ℕ → Bool
maximum_fit m = size_fit 32768 m

abbrev pub maxima_fit : Configuration → Bool
maxima_fit c = below c.dataqueues (λ (i : ℕ). maximum_fit (get_or c.sizes i 0)) && pick (has_control c) (maximum_fit c.control) true

-- the refusals, in the order of the checks; none where the state is made
abbrev pub refused_for : Configuration → Option Refusal
refused_for c =
    pick (ltb (2 ^ 64 - 0x2000) c.base) (Some WindowBase)
    (pick (eqb (queue_count c) 0 || ltb max_queues (queue_count c)) (Some QueueCount)
    (pick (not (maxima_fit c)) (Some QueueSize)
    (pick (ltb max_vectors c.vectors) (Some VectorCount)
    (pick (ltb max_regions c.regions) (Some RegionCount) None))))

-- a refusal's number, 0 for none
abbrev pub number_or_none : Option Refusal → ℕ
number_or_none None = 0
number_or_none (Some e) = refusal_number e

abbrev pub refusal_of : Configuration → ℕ
refusal_of c = number_or_none (refused_for c)

-- what is made where nothing is refused
abbrev pub unless : {X : Type 0} → Option Refusal → X → Result X Refusal
unless None x = Ok x
unless (Some e) x = Err e

abbrev pub checked : Option Refusal → Result (Unit {0}) Refusal
checked r = unless r tt

-- a queue's maximum size: the data queues', then the control queue's, then none
abbrev pub maximum_at : (dataqueues control i given : ℕ) → ℕ
maximum_at d c i given = pick (ltb i d) given (pick (eqb i d) c 0)

abbrev pub maxima : Configuration → List ℕ
maxima c = each (maximum_at c.dataqueues c.control) c.sizes

-- regions past their count are not there
abbrev pub no_region : Region
no_region = record { offset = 0; length = 0 }

abbrev pub region_at : (regions i : ℕ) → Region → Region
region_at n i r = pick (ltb i n) r no_region

-- what of a configuration the device goes by
abbrev pub accepted : Configuration → Config
accepted c =
    record {
      base = c.base;
      memory = record { length = c.memory };
      list = c.list;
      kind = c.kind;
      page0 = c.page0;
      page1 = c.page1;
      vectors = c.vectors;
      dataqueues = c.dataqueues;
      count = queue_count c;
      regions = c.regions;
      sizes = maxima c;
      table = each (region_at c.regions) c.table;
    }

-- the queues that a wipe leaves
abbrev pub fresh_queues : (sizes : List ℕ) → List Queue
fresh_queues sizes = each (λ (i m : ℕ). fresh_queue m) sizes

abbrev pub no_vector : Vector
no_vector = record { low = 0; high = 0; message = 0; masked = false }

abbrev pub no_vectors : List Vector
no_vectors = replicate max_vectors no_vector

-- "Fresh status is 0"; selectors 0, nothing active, nothing held
abbrev pub fresh_hot : Configuration → Hot
fresh_hot c =
    record {
      status = 0;
      interrupts = 0;
      vendor = vendor_word c.msi c.given c.features c.wildcard;
      page = 0;
      ackpage = 0;
      queue = 0;
      region = 0;
      doorbell = fresh_doorbell c.given c.features c.wildcard;
      msi = false;
    }

-- "no device": every word 0
abbrev pub no_config : Config
no_config =
    record {
      base = 0;
      memory = record { length = 0 };
      list = 0;
      kind = 0;
      page0 = 0;
      page1 = 0;
      vectors = 0;
      dataqueues = 0;
      count = 0;
      regions = 0;
      sizes = replicate max_queues 0;
      table = replicate max_regions no_region;
    }

-- nothing active, registered or enabled
abbrev pub no_flags : Flags
no_flags = record { active = false; registered = false; enabled = false }

unfoldable pub configured : Configuration → Result Config Refusal
configured c = unless (refused_for c) (accepted c)
