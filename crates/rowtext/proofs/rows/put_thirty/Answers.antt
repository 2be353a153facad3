-- `rowtext::rows::put_thirty` meets its contract.
-- Assumes nothing.
use mathlib.Core.List.{append_assoc}
use Rattle.rowtext.proofs.Texts.{thirty-is}
use Rattle.rowtext.proofs.rows.put_thirty.Goals as goal

pub returns : goal.returns
returns g c = rw (c.put-5.ensures, c.put-4.ensures, c.put-3.ensures, c.put-2.ensures, c.put.ensures, thirty-is) (simp append_assoc)
