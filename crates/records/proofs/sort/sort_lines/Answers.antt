-- `sort_lines`: a law for each way through the loop. Assumes nothing.
use Rattle.std.proofs.Common.{ap, arith}
use Rattle.records.specs.declared.sheet.Sheet.{Sheet}
use Rattle.records.proofs.sort.Laws.{sorting_start, sorting-few, sorting-room, sorting-more, sorting-end}
use Rattle.records.proofs.sort.sort_lines.Goals as goal

pub loop-next-init : goal.loop-next-init
loop-next-init c = record { sorting = sorting_start _ _ c.blank_sheet-sorted.ensures; next = c.next_above-next.ensures }

pub with_line-sorted-requires : goal.with_line-sorted-requires
with_line-sorted-requires c = sorting-room _ _ c.loop-next.invariant.sorting c.requires _ c.loop-next.invariant.next c.loop-next-test.true

pub loop-next-smaller : goal.loop-next-smaller
loop-next-smaller c =
    let few = sorting-few _ _ c.loop-next.invariant.sorting c.requires _ c.loop-next.invariant.next c.loop-next-test.true in
    let more = ap (λ (s : Sheet). s.count) c.with_line-sorted.ensures in
    omega arith

pub loop-next-preserved : goal.loop-next-preserved
loop-next-preserved c = record {
  sorting = sorting-more _ _ c.loop-next.invariant.sorting c.requires _ c.loop-next.invariant.next c.loop-next-test.true _ c.line_at.ensures _ c.with_line-sorted.ensures;
  next = c.next_above-next-in-loop-next.ensures;
}

pub returns : goal.returns
returns c = sorting-end _ _ c.loop-next.invariant.sorting c.requires _ c.loop-next.invariant.next c.loop-next-test.false
