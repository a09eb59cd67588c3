use Rattle.std.proofs.Common.{◌≤◌, length, arith}
use Rattle.std.specs.BTreeMap as map
use Rattle.std.specs.Ordering.{nat_cmp}
use Rattle.std.proofs.lemmas.Result.{on_err_weaker, on_ok_weaker}
use Rattle.btor2_model.proofs.Places.{high-insert, high-same}
use Rattle.btor2_model.proofs.table.Table.insert.Goals as goal

pub returns-else-place-len-clause-ok : goal.returns-else-place-len-clause-ok
returns-else-place-len-clause-ok g c =
    let past : length c.args.self.now.low.items ≤ c.args.id = omega (arith, c.if-place-len.false, c.len.ensures) in
    on_ok_weaker c.put.result (λ is. high-insert c.args.self.now.low.items (map.get nat_cmp c.args.self.now.high) (map.get nat_cmp c.put.new.values) c.args.id c.args.value past is) c.put.ensures.ok

pub returns-else-place-len-clause-err : goal.returns-else-place-len-clause-err
returns-else-place-len-clause-err g c =
    on_err_weaker c.put.result (λ same. high-same c.args.self.now.low.items (map.get nat_cmp c.args.self.now.high) (map.get nat_cmp c.put.new.values) same) c.put.ensures.err
