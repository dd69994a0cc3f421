-- What is left to do from here comes to the whole: the contracts of the private functions. A reader of the public promises
-- needs none of these.
use Rattle.std.specs.Prelude.{◌≡◌, Bool, false, List, [], ◌++◌, ℕ, zero, suc, ◌+◌, Result, Ok, Err}
use Rattle.words.specs.declared.Action.{Action}
use Rattle.tape.specs.Play.{sheet, play}
use Rattle.tape.specs.declared.Recorder.{Recorder}
use Rattle.activation.specs.Requests.{Request, Bell, Note, Enable, Activate, turn, after, asks, starts}
use Rattle.activation.specs.declared.Request.{Request as Asking}
use Rattle.activation.specs.declared.Request.TheVariants.{Doorbell, Notify, Interrupts, Device}

-- the request that the code names
abbrev pub request_of : Asking → Request
request_of (Doorbell q) = Bell q.0
request_of (Notify q) = Note q.0
request_of Interrupts = Enable
request_of Device = Activate

abbrev pub undoing : (b : ℕ) (d : Bool) (n : ℕ) → Asking → List Action
undoing b d n x = after b d n (request_of x)

-- the registrations of m queues from queue i on
abbrev pub turns : (d : Bool) (i m : ℕ) → List Request
turns d i zero = []
turns d i (suc m) = turn d i (turns d (i + 1) m)

-- the records that follow an answer, if xs are the requests still to be asked with k answers left; and whether it starts
abbrev pub follow : (b : ℕ) (d : Bool) (n k : ℕ) → List Request → Result (Unit {0}) Asking → List Action
follow b d n k xs (Ok u) = asks b d n k xs
follow b d n k xs (Err x) = undoing b d n x

abbrev pub goes : (k : ℕ) → List Request → Result (Unit {0}) Asking → Bool
goes k xs (Ok u) = starts k xs
goes k xs (Err x) = false

-- The requests ys were asked, up to the one that was refused, if one was: whatever the other requests are, what follows
-- comes to the whole.
pub record Asked (r : Recorder) (ys : List Request) (r' : Recorder) (o : Result (Unit {0}) Asking) : Type 0 where
  pub same : r'.words.ghost_name ≡ r.words.ghost_name
  pub base : r'.base ≡ r.base
  pub rest : (d : Bool) (n : ℕ) (xs : List Request) → play r.base (sheet r') (follow r.base d n r'.tape.left xs o) ≡ play r.base (sheet r) (asks r.base d n r.tape.left (ys ++ xs))
  pub ends : (xs : List Request) → goes r'.tape.left xs o ≡ starts r.tape.left (ys ++ xs)
