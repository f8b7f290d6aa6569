-- Head, number and clocks stand one behind the other. Assumes nothing.
use native.Mathlib.Omega.{arith}
use Rattle.records.proofs.instant.Stored.{room, instant-stored}
use Rattle.records.proofs.instant.put_instant.Goals as goal

pub put_head-requires : goal.put_head-requires
put_head-requires c = (room c.args.clocks c.args.v c.args.buffer.now c.requires.1).head

pub put_number-requires : goal.put_number-requires
put_number-requires c = omega (arith, (room c.args.clocks c.args.v c.args.buffer.now c.requires.1).number)

pub put_cells-requires : goal.put_cells-requires
put_cells-requires c = (c.requires.0, omega (arith, (room c.args.clocks c.args.v c.args.buffer.now c.requires.1).clocks))

pub returns : goal.returns
returns c =
    instant-stored c.args.clocks c.args.v c.args.buffer.now _ _ _ _ _ _ (omega arith) c.form_kind.ensures c.form_length-before.ensures
    c.put_head.ensures c.put_number.ensures c.put_cells.ensures
