-- A word of each language.
use Rattle.std.proofs.Common.{◌≡◌, ℕ, ◌≤◌, None, List, [], ◌∷◌, length, Global, refl, ap, arith, lit<}
use Rattle.std.proofs.lemmas.List.Elements.{All-nil}
use Rattle.koika_syntax.specs.Grammar.{IsName, NumberFits, LiteralFits, IsWidth, IsType, IsConstant, IsBlock}
use Rattle.koika_syntax.specs.Grammar.{IsScheduler, IsDeclaration, IsSuffix, type_leaves, constant_leaves, block_leaves}
use Rattle.koika_syntax.specs.Grammar.{scheduler_leaves, declaration_leaves, suffix_leaves}
use Rattle.koika_syntax.specs.inner.Grammar.{IsExpression, expression_leaves}
use Rattle.koika_syntax.specs.Keywords.{keyword_text}
use Rattle.koika_syntax.specs.Tree.{name_leaves, number_leaves, literal_leaves, width_leaves, in_braces}
use Rattle.koika_syntax.specs.declared.keyword.Keyword.{Keyword}
use Rattle.koika_syntax.specs.declared.keyword.Keyword.TheVariants as keywords
use Rattle.koika_syntax.specs.declared.tree.Block.{Block, roll-Block}
use Rattle.koika_syntax.specs.declared.tree.Constant.TheViews as constant_views
use Rattle.koika_syntax.specs.declared.tree.Declaration.TheVariants as declarations
use Rattle.koika_syntax.specs.declared.tree.Expression.TheViews as views
use Rattle.koika_syntax.specs.declared.tree.Literal.{Literal}
use Rattle.koika_syntax.specs.declared.tree.Name.{Name}
use Rattle.koika_syntax.specs.declared.tree.Number.{Number}
use Rattle.koika_syntax.specs.declared.tree.Scheduler.{roll-Scheduler}
use Rattle.koika_syntax.specs.declared.tree.Suffix.TheVariants as suffixes
use Rattle.koika_syntax.specs.declared.tree.TypeExpression.TheViews as type_views
use Rattle.koika_parse.specs.inner.Expected.{Part}
use Rattle.koika_parse.specs.inner.ExpressionWords.{LevelWord}
use Rattle.koika_parse.proofs.Expected.{Has}
use Rattle.koika_parse.proofs.Parts.{is_abort, is_block, is_constant_literal, is_named_type, is_scheduler, level_abort}

abbrev pub heap : Global
heap = record { memory = record { seal = tt } }

-- a name
abbrev pub a_name : Name
a_name = record { text = 97 ∷ []; place = 0 }

some_bytes : (k : Keyword) → 2 ≤ length (keyword_text k)
some_bytes keywords.Reg = omega arith
some_bytes keywords.Input = omega arith
some_bytes keywords.Enum = omega arith
some_bytes keywords.Struct = omega arith
some_bytes keywords.Table = omega arith
some_bytes keywords.Host = omega arith
some_bytes keywords.Fun = omega arith
some_bytes keywords.Rule = omega arith
some_bytes keywords.Schedule = omega arith
some_bytes keywords.Try = omega arith
some_bytes keywords.Then = omega arith
some_bytes keywords.Else = omega arith
some_bytes keywords.If = omega arith
some_bytes keywords.Let = omega arith
some_bytes keywords.Bits = omega arith
some_bytes keywords.Unit = omega arith
some_bytes keywords.Abort = omega arith
some_bytes keywords.Pack = omega arith
some_bytes keywords.Unpack = omega arith
some_bytes keywords.Update = omega arith
some_bytes keywords.Zext = omega arith
some_bytes keywords.Sext = omega arith
some_bytes keywords.Slt = omega arith
some_bytes keywords.Sle = omega arith
some_bytes keywords.Sgt = omega arith
some_bytes keywords.Sge = omega arith
some_bytes keywords.Read0 = omega arith
some_bytes keywords.Read1 = omega arith
some_bytes keywords.Read2 = omega arith
some_bytes keywords.Read3 = omega arith
some_bytes keywords.Write0 = omega arith
some_bytes keywords.Write1 = omega arith
some_bytes keywords.Write2 = omega arith
some_bytes keywords.Write3 = omega arith
some_bytes keywords.Assert = omega arith

no_keyword : (k : Keyword) → 97 ∷ [] ≡ keyword_text k → ⊥
no_keyword k same = omega (arith, ap length same, some_bytes k)

pub a_name_is : IsName a_name
a_name_is = ((refl, refl), omega arith, no_keyword)

pub some_name : Has (Part IsName name_leaves)
some_name = (name_leaves a_name, (a_name, a_name_is, refl))

-- a number, a literal, a width and a type
abbrev pub a_number : Number
a_number = record { value = 1; place = 0 }

pub some_number : Has (Part NumberFits number_leaves)
some_number = (number_leaves a_number, (a_number, lit< tt, refl))

abbrev pub a_literal : Literal
a_literal = record { bits = record { width = 1; number = 0 }; place = 0 }

pub a_literal_is : LiteralFits a_literal
a_literal_is = record { some_bit = omega arith; no_wider = omega arith; in_range = omega arith }

pub some_literal : Has (Part LiteralFits literal_leaves)
some_literal = (literal_leaves a_literal, (a_literal, a_literal_is, refl))

pub some_width : Has (Part IsWidth width_leaves)
some_width = (width_leaves (record { place = 0; number = a_number }), (record { place = 0; number = a_number }, lit< tt, refl))

pub some_type : Has (Part IsType type_leaves)
some_type = (type_leaves (type_views.made-Named a_name), (type_views.made-Named a_name, is_named_type a_name a_name_is, refl))

-- a constant, an expression of each level, a block, a scheduler and a declaration
pub some_constant : Has (Part IsConstant constant_leaves)
some_constant = (constant_leaves (constant_views.made-Literal a_literal), (constant_views.made-Literal a_literal, is_constant_literal a_literal a_literal_is, refl))

pub some_expression : Has (Part IsExpression expression_leaves)
some_expression = (expression_leaves (views.made-Abort 0), (views.made-Abort 0, is_abort 0 tt, refl))

pub some_level : (k : ℕ) → k ≤ 12 → Has (LevelWord k)
some_level k low = (expression_leaves (views.made-Abort 0), (views.made-Abort 0, (is_abort 0 tt, omega (arith, low, level_abort 0)), refl))

abbrev a_block : Block
a_block = roll-Block (record { place = 0; statements = []; value = None })

pub some_block : Has (Part IsBlock block_leaves)
some_block = (block_leaves a_block, (a_block, is_block 0 [] None (All-nil _) tt, refl))

pub some_scheduler : Has (Part IsScheduler (λ s. in_braces (scheduler_leaves s)))
some_scheduler =
    let s = roll-Scheduler (record { rules = []; last = None }) in
    (in_braces (scheduler_leaves s), (s, is_scheduler [] None (All-nil IsName) tt, refl))

pub some_declaration : Has (Part IsDeclaration declaration_leaves)
some_declaration = (declaration_leaves (declarations.Assert a_name), (declarations.Assert a_name, a_name_is, refl))

pub some_suffix : Has (Part IsSuffix suffix_leaves)
some_suffix = (suffix_leaves (suffixes.Field a_name), (suffixes.Field a_name, a_name_is, refl))
