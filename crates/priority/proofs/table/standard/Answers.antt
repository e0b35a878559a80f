-- `standard` meets its contract: its rows are those of the definition, in its order.
use mathlib.Core.Path.{refl}
use Rattle.priority.proofs.table.standard.Goals as goal

pub returns : goal.returns
returns c =
    let b = c in
    rw (
      b.only.ensures,
      b.only-2.ensures,
      b.only-3.ensures,
      b.only-4.ensures,
      b.only-5.ensures,
      c.only-6.ensures,
      c.only-7.ensures,
      c.only-8.ensures,
      c.only-9.ensures,
      c.only-10.ensures,
    ) refl
