-- What a method of a page prints: bytes from its place on, over the lent buffer, which it keeps.
use Rattle.std.specs.Prelude.{Bool, ◌≡◌, List, [], ℕ, ◌+◌, ◌≤◌, length}
use Rattle.words.specs.Actions.{Emitted}
use Rattle.words.specs.Pick.{pick}
use Rattle.text.specs.Room.{room}
use Rattle.text.specs.declared.Page.{Page}

-- from its place on, so many bytes are left: what is asked of the caller of a method that doesn't test it
abbrev pub Spare : (need : ℕ) → Page → Type 0
Spare n p = p.at + n ≤ length p.out.now

-- the bytes w, at most so many of them
pub record Prints (most : ℕ) (old : Page) (w : List ℕ) (new : Page) : Type 0 where
  pub same : new.out.ghost_name ≡ old.out.ghost_name
  pub text : Emitted old.out.now old.at w new.out.now new.at
  pub small : new.at ≤ old.at + most
  pub long : length new.out.now ≡ length old.out.now

-- the same where it is told, and else nothing
abbrev pub PrintsIf : (told : Bool) → (most : ℕ) → Page → List ℕ → Page → Type 0
PrintsIf told most old w new = Prints most old (pick told w []) new

-- the same, as a test
abbrev pub has_room : (need : ℕ) → Page → Bool
has_room n p = room n (length p.out.now) p.at

-- a line that asks for so many bytes: written where they are left, and else nothing is
abbrev pub PrintsLine : (need : ℕ) → Page → List ℕ → Page → Type 0
PrintsLine n old w new = PrintsIf (has_room n old) n old w new
