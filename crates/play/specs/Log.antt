-- A trace's records as the operations of a log (01, The trace): "u32 kind (1 read, 2 write, 3 raise), u32 k, u64 offset or bits,
-- u32 length, u32 start in pool". A log has the newest operation first.
use Rattle.std.specs.Prelude.{Bool, false, List, [], ◌∷◌, ℕ, zero, suc, ◌+◌, eqb, leb}
use Rattle.words.specs.Pick.{pick}
use Rattle.mmio_v2.specs.Operation.{Operation, Read, Write, Raise}
use Rattle.trace.specs.Records.{kind_good}
use Rattle.trace.specs.Verdict.{count, data_of, record_of}
use Rattle.trace.specs.declared.Record.{Record}

-- the operation that a record is, if these are a write's bytes
unfoldable pub operation_of : Record → (bytes : List ℕ) → Operation
operation_of r bs =
    pick (eqb r.kind 1) (Read r.k r.place r.len)
    (pick (eqb r.kind 2) (Write r.k r.place bs) (Raise r.place))

-- it may run, wherever a write's bytes come from: its kind is 1 to 3, raise bits are below 2^32, and the length it names is at
-- most 4,096, whatever its kind
abbrev pub may_run : Record → Bool
may_run r = pick (kind_good r) (leb r.len 4096) false

-- the operation of a trace's record; a write's bytes are the data that the record names
unfoldable pub operation_at : List ℕ → (i : ℕ) → Operation
operation_at s i = operation_of (record_of s i) (data_of s (record_of s i))

-- m records of a trace, from record i on
unfoldable pub log_from : List ℕ → (i m : ℕ) → List Operation
log_from s i zero = []
log_from s i (suc m) = operation_at s (i + m) ∷ log_from s i m

-- all its records
abbrev pub records_of : List ℕ → List Operation
records_of s = log_from s 0 (count s)
