use Rattle.words.proofs.Bytes.{written}
use Rattle.words.proofs.U16LittleEndian.write.Goals as goal

pub returns-in-Some : goal.returns-in-Some
returns-in-Some c = written 1 _ _ _ c.in-Some.ensures.cases.enough c.to_le_bytes.ensures
