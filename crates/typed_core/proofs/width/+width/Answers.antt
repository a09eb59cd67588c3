use Rattle.std.proofs.Common.{arith}
use Rattle.typed_core.specs.Valid.{declarations}
use Rattle.typed_core.proofs.Widths.{ActionHasWidth-same, finds_input, finds_read, finds_two, finds_slice, finds_extended, finds_table, finds_host, finds_let, finds_if, finds_write}
use Rattle.typed_core.proofs.width.+width.Goals as goal

pub operand_width-returns-then-width-eq0 : goal.operand_width-returns-then-width-eq0
operand_width-returns-then-width-eq0 t c =
    record { width = λ w h. omega (arith, ActionHasWidth-same (declarations c.args.parts.now) c.args.action.now c.args.scope.now c.in_ok-width.width w c.in_ok-width.ensures h.0) }

pub width_of-returns-in-Input : goal.width_of-returns-in-Input
width_of-returns-in-Input t c = finds_input _ _ _ _ c.in-Input.is c.input_width.ensures

pub width_of-returns-in-Read : goal.width_of-returns-in-Read
width_of-returns-in-Read t c = finds_read _ _ _ _ c.in-Read.is c.access_width.ensures

pub width_of-returns-in_ok-right-in-Two : goal.width_of-returns-in_ok-right-in-Two
width_of-returns-in_ok-right-in-Two t c =
    finds_two _ _ _ _ _ _ c.in-Two.is (rw c.deref-in-Two.ensures at c.in_ok-left-in-Two.ensures.width) (rw c.deref-in-Two-2.ensures at c.in_ok-right-in-Two.ensures.width) c.two_width.ensures

pub width_of-returns-in_ok-operand_width-in-Slice : goal.width_of-returns-in_ok-operand_width-in-Slice
width_of-returns-in_ok-operand_width-in-Slice t c =
    finds_slice _ _ _ _ _ c.in-Slice.is (rw c.deref-in-Slice.ensures at c.in_ok-operand_width-in-Slice.ensures.width.0) c.slice_width.ensures

pub width_of-returns-in_ok-operand_width-in-Table : goal.width_of-returns-in_ok-operand_width-in-Table
width_of-returns-in_ok-operand_width-in-Table t c =
    finds_table _ _ _ _ _ c.in-Table.is (rw c.deref-in-Table.ensures at c.in_ok-operand_width-in-Table.ensures.width) c.table_width.ensures

pub width_of-returns-in_ok-operand_width-in-Host : goal.width_of-returns-in_ok-operand_width-in-Host
width_of-returns-in_ok-operand_width-in-Host t c =
    finds_host _ _ _ _ _ c.in-Host.is (rw c.deref-in-Host.ensures at c.in_ok-operand_width-in-Host.ensures.width) c.host_width.ensures

pub width_of-returns-in_ok-bound-in-Let : goal.width_of-returns-in_ok-bound-in-Let
width_of-returns-in_ok-bound-in-Let t c =
    finds_let _ _ _ _ _ c.in-Let.is (rw c.deref-in-Let.ensures at c.in_ok-bound-in-Let.ensures.width) (rw (c.deref-in-Let-2.ensures, c.bind.ensures) at c.width_of.ensures)

pub width_of-returns-in_ok-second-in-If : goal.width_of-returns-in_ok-second-in-If
width_of-returns-in_ok-second-in-If t c =
    finds_if _ _ _ _ _ _ _ c.in-If.is (rw c.deref-in-If.ensures at c.in_ok-condition-in-If.ensures) (rw c.deref-in-If-2.ensures at c.in_ok-first-in-If.ensures) (rw c.deref-in-If-3.ensures at c.in_ok-second-in-If.ensures) c.choice_width.ensures

pub width_of-returns-in_ok-held-in-Write : goal.width_of-returns-in_ok-held-in-Write
width_of-returns-in_ok-held-in-Write t c =
    finds_write _ _ _ _ _ c.in-Write.is (rw c.deref-in-Write.ensures at c.in_ok-held-in-Write.ensures) c.write_width.ensures

pub width_of-returns-in_ok-operand_width-in-Zext : goal.width_of-returns-in_ok-operand_width-in-Zext
width_of-returns-in_ok-operand_width-in-Zext t c = finds_extended _ _ _ _ _ c.in-Zext.is (rw c.deref-in-Zext.ensures at c.in_ok-operand_width-in-Zext.ensures.width) c.extended_width.ensures
