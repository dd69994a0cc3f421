-- Cases as tables: a configuration, operations in the order of time, one operation more, what is looked at after it and what
-- is found (01, Bench checks marked P, in their order; then a row for each rule that the log's reading shares with the device
-- and no P row touches).
use Rattle.std.specs.Prelude.{true, List, [], ◌∷◌, ◌++◌, ℕ, length}
use Rattle.words.specs.Pick.{pick}
use Rattle.words.specs.Bytes.{bytes_of}
use Rattle.virtq.specs.Fields.{fields_of}
use Rattle.virtq.specs.declared.Field.{Field}
use Rattle.virtq.specs.declared.Field.TheVariants.{Size, Ready, DescLow, AvailLow, UsedLow}
use Rattle.mmio_config.specs.declared.Configuration.{Configuration}
use Rattle.mmio_config.specs.declared.Region.{Region}
use Rattle.mmio_v2.specs.Operation.{Operation, Read, Write}
use Rattle.mmio_v2.specs.Step.{Outcome, step}
use Rattle.history.specs.Run.{run}

-- ---- rows

pub data Look : Type 0 where
  Status Active Count Index : Look
  Of : (q : ℕ) → Field → Look
  Reply : Look

abbrev pub look : Outcome → Look → List ℕ
look o Status = o.state.hot.status ∷ []
look o Active = pick o.state.flags.active 1 0 ∷ []
look o Count = length o.actions ∷ []
look o Index = o.state.stage.index_select ∷ []
look o (Of q f) = fields_of o.state.queues q f ∷ []
look o Reply = o.reply

abbrev pub looks : Outcome → List Look → List ℕ
looks o [] = []
looks o (x ∷ xs) = look o x ++ looks o xs

pub record Row : Type 0 where
  pub config : Configuration
  pub before : List Operation
  pub then : Operation
  pub at : List Look
  pub found : List ℕ

abbrev pub row : Configuration → List Operation → Operation → List Look → List ℕ → Row
row c b o l f = record { config = c; before = b; then = o; at = l; found = f }

-- a log in the order of time, the newest first
abbrev pub onto : List Operation → List Operation → List Operation
onto [] log = log
onto (op ∷ ops) log = onto ops (op ∷ log)

-- what is found, by the step that the promises cite, with 320 words
abbrev pub finds : Row → List ℕ
finds r = looks (step 320 (run r.config (onto r.before [])) r.then) r.at

abbrev pub all_find : List Row → List (List ℕ)
all_find [] = []
all_find (r ∷ rs) = finds r ∷ all_find rs

abbrev pub all_found : List Row → List (List ℕ)
all_found [] = []
all_found (r ∷ rs) = r.found ∷ all_found rs

-- ---- what the rows are made of

abbrev none : Region
none = record { offset = 0; length = 0 }

-- data queues of these maximum sizes, one region, a doorbell, four vectors
abbrev pub device : (dataqueues : ℕ) (sizes : List ℕ) → Configuration
device d sizes =
    record {
      base = 0xd0000000;
      size = 0x2000;
      memory = 0x10000;
      kind = 2;
      given = true;
      features = 4;
      wildcard = true;
      msi = true;
      page0 = 0x11;
      page1 = 0x22;
      vectors = 4;
      dataqueues = d;
      control = 0;
      sizes = sizes;
      regions = 1;
      list = 0x100000001;
      table = record { offset = 0xffffffff00000000; length = 0x5000 } ∷ none ∷ none ∷ none ∷ none ∷ none ∷ none ∷ none ∷ [];
    }

abbrev pub one : Configuration
one = device 1 (512 ∷ 0 ∷ 0 ∷ 0 ∷ 0 ∷ 0 ∷ 0 ∷ 0 ∷ 0 ∷ 0 ∷ 0 ∷ 0 ∷ 0 ∷ 0 ∷ 0 ∷ 0 ∷ [])

abbrev pub two : Configuration
two = device 2 (256 ∷ 256 ∷ 0 ∷ 0 ∷ 0 ∷ 0 ∷ 0 ∷ 0 ∷ 0 ∷ 0 ∷ 0 ∷ 0 ∷ 0 ∷ 0 ∷ 0 ∷ 0 ∷ [])

abbrev pub sixteen : Configuration
sixteen = device 16 (256 ∷ 256 ∷ 256 ∷ 256 ∷ 256 ∷ 256 ∷ 256 ∷ 256 ∷ 256 ∷ 256 ∷ 256 ∷ 256 ∷ 256 ∷ 256 ∷ 256 ∷ 256 ∷ [])

-- a write of four bytes, or of two, with outcome number k; a read of four
abbrev pub put : (k o v : ℕ) → Operation
put k o v = Write k o (bytes_of 4 v)

abbrev pub half : (k o v : ℕ) → Operation
half k o v = Write k o (bytes_of 2 v)

abbrev pub get : (o : ℕ) → Operation
get o = Read 0 o 4

abbrev pub climb : List Operation
climb = put 0 0x070 1 ∷ put 0 0x070 3 ∷ put 0 0x070 0xb ∷ []

-- a queue laid out and made ready
abbrev pub lay_out : (q : ℕ) → List Operation
lay_out q = put 0 0x030 q ∷ put 0 0x080 0x1000 ∷ put 0 0x090 0x3000 ∷ put 0 0x0a0 0x4000 ∷ put 0 0x044 1 ∷ []

abbrev pub started : List Operation
started = climb ++ lay_out 0 ++ (put 9 0x070 0xf ∷ [])

abbrev pub mode : List Operation
mode = half 1 0x0c0 0x8000 ∷ []

-- ---- the P rows of 01, in its order

unfoldable pub P : List Row
P =
    row one (put 0 0x070 1 ∷ []) (put 0 0x070 1) (Status ∷ []) (0x81 ∷ [])
    ∷ row one [] (put 0 0x070 0) (Status ∷ []) (0x00 ∷ [])
    ∷ row one (put 0 0x070 1 ∷ put 0 0x070 3 ∷ []) (put 0 0x070 0) (Status ∷ Count ∷ []) (0x83 ∷ 0 ∷ [])
    ∷ row one (put 0 0x070 1 ∷ put 0 0x070 1 ∷ []) (put 0 0x070 3) (Status ∷ []) (0x81 ∷ [])
    ∷ row one (started ++ (put 0 0x070 7 ∷ [])) (put 1 0x070 0) (Status ∷ Active ∷ []) (0x8f ∷ 0 ∷ [])
    ∷ row one climb (put 0 0x038 0x10100) (Of 0 Size ∷ []) (256 ∷ [])
    ∷ row one climb (put 0 0x038 300) (Of 0 Size ∷ []) (512 ∷ [])
    ∷ row one climb (put 0 0x044 0x101) (Of 0 Ready ∷ []) (0 ∷ [])
    ∷ row one climb (put 0 0x080 0x1008) (Of 0 DescLow ∷ []) (0 ∷ [])
    ∷ row one climb (put 0 0x080 0x1010) (Of 0 DescLow ∷ []) (0x1010 ∷ [])
    ∷ row two mode (half 0 0x0c2 0x1002) (Status ∷ Index ∷ []) (0x00 ∷ 2 ∷ [])
    ∷ row two mode (half 0 0x0c2 0x1003) (Status ∷ Index ∷ []) (0x00 ∷ 0 ∷ [])
    ∷ row one [] (half 0 0x0c2 0x0001) (Status ∷ []) (0x80 ∷ [])
    ∷ row one [] (get 0x0b8) (Reply ∷ []) (1 ∷ 0 ∷ 0 ∷ 0 ∷ [])
    ∷ row one [] (get 0x0bc) (Reply ∷ []) (0 ∷ 0 ∷ 0 ∷ 0 ∷ [])
    ∷ []

-- ---- rules that the reading shares with the device, one row each

unfoldable pub shared : List Row
shared =
    -- the available ring's low half is a multiple of 2, the used ring's of 4
    row one climb (put 0 0x090 0x1002) (Of 0 AvailLow ∷ []) (0x1002 ∷ [])
    ∷ row one climb (put 0 0x0a0 0x1002) (Of 0 UsedLow ∷ []) (0 ∷ [])
    -- fields are closed before FEATURES_OK and at DRIVER_OK; and to a selector that names no queue
    ∷ row one (put 0 0x070 1 ∷ put 0 0x070 3 ∷ []) (put 0 0x080 0x1000) (Of 0 DescLow ∷ []) (0 ∷ [])
    ∷ row one started (put 0 0x080 0x2000) (Of 0 DescLow ∷ []) (0x1000 ∷ [])
    ∷ row one (climb ++ (put 0 0x030 1 ∷ [])) (put 0 0x038 256) (Of 0 Size ∷ Of 1 Size ∷ []) (512 ∷ 0 ∷ [])
    -- a start: the scan stops at the second queue; one answer short of the four; just enough
    ∷ row two (climb ++ lay_out 0) (put 9 0x070 0xf) (Status ∷ Active ∷ Count ∷ Of 0 Ready ∷ []) (0x8f ∷ 0 ∷ 1 ∷ 0 ∷ [])
    ∷ row one (climb ++ lay_out 0) (put 3 0x070 0xf) (Status ∷ Active ∷ []) (0x8f ∷ 0 ∷ [])
    ∷ row one (climb ++ lay_out 0) (put 4 0x070 0xf) (Status ∷ Active ∷ []) (0x0f ∷ 1 ∷ [])
    -- a reset refused
    ∷ row one started (put 0 0x070 0) (Status ∷ Active ∷ Count ∷ []) (0x8f ∷ 1 ∷ 1 ∷ [])
    -- a mode refused; a mode asked with DRIVER_OK set
    ∷ row one [] (half 0 0x0c0 0x8000) (Status ∷ Count ∷ []) (0x80 ∷ 1 ∷ [])
    ∷ row one started (half 9 0x0c0 0x8000) (Status ∷ Count ∷ []) (0x8f ∷ 0 ∷ [])
    -- commands 0x1000 to 0x3000 set no FAILED
    ∷ row one climb (half 0 0x0c2 0x3000) (Status ∷ []) (0x0b ∷ [])
    ∷ []
