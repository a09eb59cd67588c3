use Rattle.std.proofs.Common.{◌≡◌, ℕ, List, Option, subst, sym}
use Rattle.koika_check.specs.declared.checked.Checked.{Checked}
use Rattle.koika_check.specs.declared.typed.Operation.{Operation}
use Rattle.koika_check.specs.declared.typed.Operation.TheVariants as operation
use Rattle.koika_check.specs.declared.typed.ValueType.{ValueType}
use Rattle.koika_lower.specs.inner.Applied.{AllFit, IsChain, IsPrefixed, IsSelected}
use Rattle.koika_lower.specs.inner.Simulation.{IsApplied, Lowers, Sense, apply_sense}
use Rattle.koika_lower.specs.declared.lowered.Bound.{Bound}
use Rattle.koika_lower.specs.declared.lowered.Lowered.{Lowered}
use Rattle.koika_lower.proofs.Accesses.{abort-lowers, read-lowers, table-lowers, write-lowers}
use Rattle.koika_lower.proofs.Bindings.{on_ok}
use Rattle.koika_lower.proofs.Compounds.{struct-lowers}
use Rattle.koika_lower.proofs.Constructs.{extend-lowers, pack-lowers, unary-lowers, unpack-lowers}
use Rattle.koika_lower.proofs.Groups.{chain-lowers}
use Rattle.koika_lower.proofs.Hosts.{compare-lowers, host-lowers}
use Rattle.koika_lower.proofs.Parts.{array-lowers, select-lowers, update-lowers}
use Rattle.koika_lower.proofs.applying.applied.Goals as goal

-- the operation is known
at_operation : (d : Checked) (n depth : ℕ) (names : List Bound) (types : List ValueType) (of : Option ValueType) (senses : List Sense) (l : Lowered) (o known : Operation) → o ≡ known →
    (ts : List ValueType) (operands : List Lowered) → IsApplied d n depth names types o ts of senses operands →
    ((given : IsApplied d n depth names types known ts of senses operands) → Lowers d n depth names types of (apply_sense known senses) l) → Lowers d n depth names types of (apply_sense o senses) l
at_operation d n depth names types of senses l o known e ts operands given h =
    subst (λ (x : Operation). Lowers d n depth names types of (apply_sense x senses) l) (sym e) (h (subst (λ (x : Operation). IsApplied d n depth names types x ts of senses operands) e given))

pub returns-in-Unary : goal.returns-in-Unary
returns-in-Unary c =
    on_ok c.prefixed.result
    (λ l h n depth names types ts of senses given.
    at_operation c.args.design.now n depth names types of senses l c.args.operation.now (operation.Unary c.in-Unary.operators) c.in-Unary.is ts c.args.operands given
    (λ it. unary-lowers c.args.design.now n depth names types c.in-Unary.operators ts of senses c.args.operands _ c.last_of.result l c.last_of.ensures (subst (λ os. IsPrefixed os c.last_of.result l) c.as_slice.ensures h) it))
    c.prefixed.ensures

pub returns-in-Chain : goal.returns-in-Chain
returns-in-Chain c =
    on_ok c.chained.result
    (λ l h n depth names types ts of senses given.
    at_operation c.args.design.now n depth names types of senses l c.args.operation.now (operation.Chain c.in-Chain.operators c.in-Chain.width) c.in-Chain.is ts c.args.operands given
    (λ it. chain-lowers c.args.design.now n depth names types c.in-Chain.operators c.in-Chain.width ts of senses c.args.operands l (subst (λ os. IsChain os c.args.operands l) c.as_slice-in-Chain.ensures h) it))
    c.chained.ensures

pub returns-in-Select : goal.returns-in-Select
returns-in-Select c =
    on_ok c.selected.result
    (λ l h n depth names types ts of senses given.
    at_operation c.args.design.now n depth names types of senses l c.args.operation.now (operation.Select c.in-Select.selections) c.in-Select.is ts c.args.operands given
    (λ it. select-lowers c.args.design.now n depth names types c.in-Select.selections ts of senses c.args.operands _ c.last_of-in-Select.result l c.last_of-in-Select.ensures (subst (λ ss. AllFit ss c.last_of-in-Select.result.width → IsSelected ss c.last_of-in-Select.result l) c.as_slice-in-Select.ensures h) it))
    c.selected.ensures

pub returns-in-Update : goal.returns-in-Update
returns-in-Update c =
    on_ok c.updated.result
    (λ l h n depth names types ts of senses given.
    at_operation c.args.design.now n depth names types of senses l c.args.operation.now (operation.Update c.in-Update.selection) c.in-Update.is ts c.args.operands given
    (λ it. update-lowers c.args.design.now n depth names types c.in-Update.selection ts of senses c.args.operands l h it))
    c.updated.ensures

pub returns-in-Struct : goal.returns-in-Struct
returns-in-Struct c =
    on_ok c.joined.result
    (λ l h n depth names types ts of senses given.
    at_operation c.args.design.now n depth names types of senses l c.args.operation.now (operation.Struct c.in-Struct.field-0) c.in-Struct.is ts c.args.operands given
    (λ it. struct-lowers c.args.design.now n depth names types c.in-Struct.field-0 ts of senses c.args.operands l h it))
    c.joined.ensures

pub returns-in-Array : goal.returns-in-Array
returns-in-Array c =
    on_ok c.array.result
    (λ l h n depth names types ts of senses given.
    at_operation c.args.design.now n depth names types of senses l c.args.operation.now (operation.Array) c.in-Array.is ts c.args.operands given
    (λ it. array-lowers c.args.design.now n depth names types ts of senses c.args.operands l h it))
    c.array.ensures

pub returns-in-Extend : goal.returns-in-Extend
returns-in-Extend c =
    on_ok c.extended.result
    (λ l h n depth names types ts of senses given.
    at_operation c.args.design.now n depth names types of senses l c.args.operation.now (operation.Extend c.in-Extend.extension c.in-Extend.width) c.in-Extend.is ts c.args.operands given
    (λ it. extend-lowers c.args.design.now n depth names types c.in-Extend.extension c.in-Extend.width ts of senses c.args.operands _ c.last_of-in-Extend.result l c.last_of-in-Extend.ensures h it))
    c.extended.ensures

pub returns-in-Compare : goal.returns-in-Compare
returns-in-Compare c =
    on_ok c.compared.result
    (λ l h n depth names types ts of senses given.
    at_operation c.args.design.now n depth names types of senses l c.args.operation.now (operation.Compare c.in-Compare.comparison) c.in-Compare.is ts c.args.operands given
    (λ it. compare-lowers c.args.design.now n depth names types c.in-Compare.comparison ts of senses c.args.operands h.before h.init h.left h.right l h.form h.last h.first h.value h.fits h.formed it))
    c.compared.ensures

pub returns-in-Table : goal.returns-in-Table
returns-in-Table c =
    on_ok c.asked_table.result
    (λ l h n depth names types ts of senses given.
    at_operation c.args.design.now n depth names types of senses l c.args.operation.now (operation.Table c.in-Table.number) c.in-Table.is ts c.args.operands given
    (λ it. table-lowers c.args.design.now n depth names types c.in-Table.number ts of senses c.args.operands _ c.last_of-in-Table.result l c.last_of-in-Table.ensures h it))
    c.asked_table.ensures

pub returns-in_ok-joined-in-Host : goal.returns-in_ok-joined-in-Host
returns-in_ok-joined-in-Host c =
    on_ok c.asked_host.result
    (λ l h n depth names types ts of senses given.
    at_operation c.args.design.now n depth names types of senses l c.args.operation.now (operation.Host c.in-Host.number) c.in-Host.is ts c.args.operands given
    (λ it. host-lowers c.args.design.now n depth names types c.in-Host.number ts of senses c.args.operands c.in_ok-joined-in-Host.field-0 l c.in_ok-joined-in-Host.ensures h it))
    c.asked_host.ensures

pub returns-in-Write : goal.returns-in-Write
returns-in-Write c =
    on_ok c.written.result
    (λ l h n depth names types ts of senses given.
    at_operation c.args.design.now n depth names types of senses l c.args.operation.now (operation.Write c.in-Write.port c.in-Write.register) c.in-Write.is ts c.args.operands given
    (λ it. write-lowers c.args.design.now n depth names types c.in-Write.port c.in-Write.register ts of senses c.args.operands _ c.last_of-in-Write.result l c.last_of-in-Write.ensures h it))
    c.written.ensures

pub returns-in-Read : goal.returns-in-Read
returns-in-Read c n depth names types ts of senses given =
    at_operation c.args.design.now n depth names types of senses c.read.result c.args.operation.now (operation.Read c.in-Read.port c.in-Read.register) c.in-Read.is ts c.args.operands given
    (λ it. read-lowers c.args.design.now n depth names types c.in-Read.port c.in-Read.register ts of senses c.args.operands c.read.result c.read.ensures it)

pub returns-in-Abort : goal.returns-in-Abort
returns-in-Abort c n depth names types ts of senses given =
    at_operation c.args.design.now n depth names types of senses _ c.args.operation.now operation.Abort c.in-Abort.is ts c.args.operands given
    (λ it. abort-lowers c.args.design.now n depth names types ts of senses c.args.operands it)

pub returns-in-Pack : goal.returns-in-Pack
returns-in-Pack c n depth names types ts of senses given =
    at_operation c.args.design.now n depth names types of senses c.last_of-in-Pack.result c.args.operation.now operation.Pack c.in-Pack.is ts c.args.operands given
    (λ it. pack-lowers c.args.design.now n depth names types ts of senses c.args.operands _ c.last_of-in-Pack.result c.last_of-in-Pack.ensures it)

pub returns-in-Unpack : goal.returns-in-Unpack
returns-in-Unpack c n depth names types ts of senses given =
    at_operation c.args.design.now n depth names types of senses c.last_of-in-Unpack.result c.args.operation.now (operation.Unpack c.in-Unpack.field-0) c.in-Unpack.is ts c.args.operands given
    (λ it. unpack-lowers c.args.design.now n depth names types c.in-Unpack.field-0 ts of senses c.args.operands _ c.last_of-in-Unpack.result c.last_of-in-Unpack.ensures it)
