use Rattle.std.proofs.Common.{refl, sym, ◌∙◌}
use Rattle.tape.specs.Play.{sheet}
use Rattle.tape.proofs.Playing.{one_written, one_unwritten}
use Rattle.tape.proofs.Recorder.emit.Goals as goal

pub returns-then-has_room : goal.returns-then-has_room
returns-then-has_room c =
    record {
      same = refl;
      base = refl;
      is =
          rw (c.left_after-self.ensures, c.held_one-self.ensures)
          (one_written _ (sheet c.args.self.now) c.args.x _ _ (sym c.has_room.ensures ∙ c.if-has_room.true) c.append.ensures);
    }

pub returns-else-has_room : goal.returns-else-has_room
returns-else-has_room c =
    record {
      same = refl;
      base = refl;
      is =
          rw (c.left_after-self.ensures, c.held_one-self.ensures)
          (one_unwritten _ (sheet c.args.self.now) c.args.x (sym c.has_room.ensures ∙ c.if-has_room.false));
    }
