-- The machine's product and sum are those of whole numbers, and fit.
use Rattle.std.proofs.Common.{◌≡◌, ℤ, ◌+ℤ◌, ◌*ℤ◌, to_z, of_z, w64}
use mir.Facts.{to_z-of_z}
use Rattle.records.proofs.word.Widened.{product-fits, relation-fits, wide_fits, widened, held-wide}
use Rattle.remainders.proofs.Whole.{bits-eq_z}
use Rattle.lines.proofs.line.is_product.Goals as goal
use Rattle.lines.proofs.line.is_product.Goals.{After-wide-4}

-- what the machine reads back of an i64
abbrev held : ℤ → ℤ
held z = to_z w64 (of_z w64 z)

sum : (c : After-wide-4) → held (held c.wide-2.result *ℤ held c.wide-3.result) +ℤ held c.wide-4.result ≡ c.args.p *ℤ c.args.b +ℤ c.args.q
sum c =
    let f = c.ranges in
    rw (held-wide w64 tt f.p c.wide-2.ensures, held-wide w64 tt f.b c.wide-3.ensures, held-wide w64 tt f.q c.wide-4.ensures, to_z-of_z {w = w64} (product-fits f.p f.b))

pub overflow_add-result : goal.overflow_add-result
overflow_add-result c = rw (sum (goal.at.overflow_add-result c).After-wide-4) (relation-fits c.ranges.p c.ranges.b c.ranges.q)

pub returns : goal.returns
returns c =
    let f = c.ranges in
    rw (sum (goal.at.returns c).After-wide-4, widened f.a c.wide.ensures) (bits-eq_z c.args.a _ (wide_fits w64 tt f.a) (relation-fits f.p f.b f.q))
