-- A product and a sum of numbers of 16 bits fit 64.
use Rattle.std.proofs.Common.{w64}
use mir.Facts.{to_z-of_z}
use Rattle.records.proofs.word.Widened.{product-fits, relation-fits, held-wide}
use Rattle.filler.proofs.sentence.is_product.Goals as goal

pub overflow_add-result : goal.overflow_add-result
overflow_add-result c =
    let f = c.ranges in
    rw (held-wide w64 tt f.p c.from-2.ensures, held-wide w64 tt f.b c.from-3.ensures, held-wide w64 tt f.q c.from-4.ensures, to_z-of_z {w = w64} (product-fits f.p f.b)) (relation-fits f.p f.b f.q)
