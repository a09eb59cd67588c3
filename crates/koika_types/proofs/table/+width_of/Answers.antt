use Rattle.std.proofs.Common.{◌<◌, List, get_or, length, subst, sym}
use Rattle.koika_types.specs.Types.{IsType, IsWidth}
use Rattle.koika_types.specs.declared.declarations.EnumDecl.{EnumDecl}
use Rattle.koika_types.specs.declared.ty.Ty.{Ty}
use Rattle.koika_types.proofs.table.+width_of.Goals as goal

pub returns-in-Enum-clause-valid : goal.returns-in-Enum-clause-valid
returns-in-Enum-clause-valid t c =
    let d = c.args.types.now in
    let number = c.in-Enum.number in
    let decl = c.index-enums-number.result in
    let within : number < length d.enums = subst (λ (ty : Ty). IsType d ty) c.in-Enum.is c.requires in
    subst (λ (enums : List EnumDecl). IsWidth (get_or enums number decl).width) (sym c.enums.ensures.enums)
    (c.enums.ensures.table.enums number decl within).0
