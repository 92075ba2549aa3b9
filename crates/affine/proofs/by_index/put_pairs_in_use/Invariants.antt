use Rattle.affine.specs.ByIndex.{ColumnsPut}
use Rattle.affine.proofs.by_index.put_pairs_in_use.Given as goal

abbrev pub ghost-put_column : goal.ghost-put_column
ghost-put_column g a = g.parting

abbrev pub invariant-loop-j : goal.invariant-loop-j
invariant-loop-j g l = ColumnsPut g.parting l.j l.numbers l.rests
