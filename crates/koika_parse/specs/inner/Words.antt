-- The words of each production, in the order of its parts, and of each part by its first token. They are the
-- grammar's, as the clauses of private functions cite them.
use Rattle.std.specs.Prelude.{◌≡◌, ◌⊎◌, Option, None, Some, IfSome, ⊤, List, map, All}
use Rattle.koika_syntax.specs.Grammar.{IsName, NumberFits, LiteralFits, IsWidth, IsType, IsMember, IsField, IsConstant, IsBlock, IsDeclaration, IsDesign, block_leaves, declaration_leaves, result_leaves, tree_leaves, type_leaves, member_leaves, field_leaves, constant_leaves, rule_leaves, last_leaves}
use Rattle.koika_syntax.specs.inner.Grammar.{choice_leaves, constant_field_leaves}
use Rattle.koika_syntax.specs.Tree.{Leaf, Terminal, name, keyword, symbol, commas, name_leaves, number_leaves, literal_leaves, width_leaves}
use Rattle.koika_syntax.specs.declared.keyword.Keyword.{Keyword}
use Rattle.koika_syntax.specs.declared.keyword.Keyword.TheVariants as keywords
use Rattle.koika_syntax.specs.declared.symbol.Symbol.TheVariants as symbols
use Rattle.koika_parse.specs.inner.Expected.{One, Part, Then, Commas}
use Rattle.std.specs.List.{flat_map}
use Rattle.koika_parse.specs.inner.Parts.{IsConstantField, IsChoice}

-- `[T; N]`
abbrev pub ArrayTypeWord : List Leaf → Type 0
ArrayTypeWord = Then (One (symbol symbols.LeftBracket)) (Then (Part IsType type_leaves) (Then (One (symbol symbols.Semicolon)) (Then (Part NumberFits number_leaves) (One (symbol symbols.RightBracket)))))

-- the declarations, one for each word
abbrev pub EnumWord : List Leaf → Type 0
EnumWord = Then (Then (One (keyword keywords.Enum)) (Part IsName name_leaves)) (Then (One (symbol symbols.Colon)) (Then (Part IsWidth width_leaves) (Then (One (symbol symbols.LeftBrace)) (Then (Commas IsMember member_leaves) (One (symbol symbols.RightBrace))))))

abbrev pub StructWord : List Leaf → Type 0
StructWord = Then (Then (One (keyword keywords.Struct)) (Part IsName name_leaves)) (Then (One (symbol symbols.LeftBrace)) (Then (Commas IsField field_leaves) (One (symbol symbols.RightBrace))))

abbrev pub RegisterWord : List Leaf → Type 0
RegisterWord = Then (Then (One (keyword keywords.Reg)) (Part IsName name_leaves)) (Then (One (symbol symbols.Colon)) (Then (Part IsType type_leaves) (Then (One (symbol symbols.Equals)) (Then (Part IsConstant constant_leaves) (One (symbol symbols.Semicolon))))))

abbrev pub InputWord : List Leaf → Type 0
InputWord = Then (Then (One (keyword keywords.Input)) (Part IsName name_leaves)) (Then (One (symbol symbols.Colon)) (Then (Part IsType type_leaves) (One (symbol symbols.Semicolon))))

abbrev pub TableWord : List Leaf → Type 0
TableWord = Then (Then (One (keyword keywords.Table)) (Part IsName name_leaves)) (Then (One (symbol symbols.Colon)) (Then (Part IsWidth width_leaves) (Then (One (symbol symbols.Arrow)) (Then (Part IsWidth width_leaves) (Then (One (symbol symbols.LeftBrace)) (Then (Commas LiteralFits literal_leaves) (One (symbol symbols.RightBrace))))))))

abbrev pub HostWord : List Leaf → Type 0
HostWord = Then (Then (One (keyword keywords.Host)) (Part IsName name_leaves)) (Then (One (symbol symbols.Colon)) (Then (Part IsWidth width_leaves) (Then (One (symbol symbols.Arrow)) (Then (Part IsWidth width_leaves) (One (symbol symbols.Semicolon))))))

abbrev pub AssertWord : List Leaf → Type 0
AssertWord = Then (Then (One (keyword keywords.Assert)) (Part IsName name_leaves)) (One (symbol symbols.Semicolon))

-- parameters, a result, functions and rules
abbrev pub ParametersWord : List Leaf → Type 0
ParametersWord = Part (λ parameters. All IsField parameters) (λ parameters. commas (map field_leaves parameters))

abbrev pub ResultWord : List Leaf → Type 0
ResultWord = Part (λ result. IfSome result IsType) result_leaves

abbrev pub FunctionWord : List Leaf → Type 0
FunctionWord = Then (Then (One (keyword keywords.Fun)) (Part IsName name_leaves)) (Then (One (symbol symbols.LeftParenthesis)) (Then ParametersWord (Then (One (symbol symbols.RightParenthesis)) (Then (One (symbol symbols.Colon)) (Then ResultWord (Part IsBlock block_leaves))))))

abbrev pub RuleWord : List Leaf → Type 0
RuleWord = Then (Then (One (keyword keywords.Rule)) (Part IsName name_leaves)) (Part IsBlock block_leaves)

-- a declaration by its word
abbrev pub DeclarationWord : Keyword → List Leaf → Type 0
DeclarationWord keywords.Enum = EnumWord
DeclarationWord keywords.Struct = StructWord
DeclarationWord keywords.Reg = RegisterWord
DeclarationWord keywords.Input = InputWord
DeclarationWord keywords.Table = TableWord
DeclarationWord keywords.Host = HostWord
DeclarationWord keywords.Fun = FunctionWord
DeclarationWord keywords.Rule = RuleWord
DeclarationWord keywords.Assert = AssertWord
DeclarationWord _ = λ u. ⊥

-- declarations, and a whole design
abbrev pub DeclarationsWord : List Leaf → Type 0
DeclarationsWord = Part (λ declarations. All IsDeclaration declarations) (λ declarations. flat_map declaration_leaves declarations)

abbrev pub schedule_follows : Option Terminal → Type 0
schedule_follows next = next ≡ Some (keyword keywords.Schedule)

abbrev pub DesignWord : List Leaf → Type 0
DesignWord = Part IsDesign tree_leaves

-- nothing follows
abbrev pub end_follows : Option Terminal → Type 0
end_follows next = next ≡ None

-- a constant: what is after its `::`, and what it is by its first token
abbrev pub ConstantTailWord : List Leaf → Type 0
ConstantTailWord = Then (One (symbol symbols.LeftBrace)) (Then (Commas IsConstantField constant_field_leaves) (One (symbol symbols.RightBrace)))

abbrev pub ConstantColonsWord : List Leaf → Type 0
ConstantColonsWord u = Part IsName name_leaves u ⊎ ConstantTailWord u

abbrev pub NamedConstantWord : List Leaf → Type 0
NamedConstantWord = Then (Part IsName name_leaves) (Then (One (symbol symbols.ColonColon)) (ConstantColonsWord))

abbrev pub ConstantArrayWord : List Leaf → Type 0
ConstantArrayWord = Then (One (symbol symbols.LeftBracket)) (Then (Commas IsConstant constant_leaves) (One (symbol symbols.RightBracket)))

-- a scheduler in its brackets, its rules, and its last choice
abbrev pub RulesWord : List Leaf → Type 0
RulesWord = Part (All IsName) (λ rules. flat_map rule_leaves rules)

abbrev pub LastChoiceWord : List Leaf → Type 0
LastChoiceWord = Part (λ last. IfSome last IsChoice) (λ last. last_leaves last choice_leaves)

abbrev pub no_name : Option Terminal → Type 0
no_name (Some (name bytes)) = ⊥
no_name _ = ⊤

abbrev pub no_try : Option Terminal → Type 0
no_try (Some (keyword keywords.Try)) = ⊥
no_try _ = ⊤
