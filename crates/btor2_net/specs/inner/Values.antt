-- What the nodes of a text's lines have: widths and values, those of their lines. Contracts of private functions alone cite it.
use Rattle.std.specs.Prelude.{◌≡◌, ℕ, ◌<◌, List, length, Some, slice_get}
use Rattle.kw_bits.specs.BitVector.{BitVector}
use Rattle.net_graph.specs.Nets.{IsNet, width_at, widths_of}
use Rattle.net_graph.specs.Values.{AllRead, Sources, node_value, value_at}
use Rattle.net_graph.specs.declared.node.NetOp.{NetOp}
use Rattle.btor2_text.specs.declared.kind.ArgumentKind.TheVariants as kinds
use Rattle.btor2_text.specs.declared.line.Line.{Line}
use Rattle.btor2_model.specs.Rules.{is_input, is_state}
use Rattle.btor2_model.specs.Run.{StepValues, Values, ids_of, values_at}
use Rattle.btor2_model.specs.Scope.{behind_all, no_lines, width_wanted}
use Rattle.btor2_net.specs.inner.Nodes.{Numbering}
use Rattle.btor2_net.specs.Translations.{widths_in}

-- the node of an id stands, and is of this width
pub record HasNodeOf (n : Numbering) (net : List NetOp) (id width : ℕ) : Type 0 where
  pub node : ℕ
  pub is : n.nodes id ≡ Some node
  pub stands : node < length net
  pub width_is : width_at (widths_of net) node ≡ width

-- the values of these ids are these, in order
abbrev pub AreGiven : List ℕ → Values → List BitVector → Type 0
AreGiven ids values given = (place id : ℕ) → slice_get ids place ≡ Some id → values id ≡ value_at given place

-- a step of a text, and what nodes read from outside, have the same inputs and states
pub record SameStep (lines : List Line) (step : StepValues) (s : Sources) : Type 0 where
  pub inputs : AreGiven (ids_of is_input lines) step.inputs s.inputs
  pub states : AreGiven (ids_of is_state lines) step.states s.states

-- each value has a node of its width, which has its value in each step
pub record AreNodesOf (lines : List Line) (n : Numbering) (net : List NetOp) : Type 0 where
  pub is_net : IsNet net
  pub widths : (id width : ℕ) → width_wanted kinds.Value ((behind_all no_lines lines).meanings id) ≡ Some width → HasNodeOf n net id width
  pub reads : AllRead (widths_in is_input lines) (widths_in is_state lines) net
  pub values : (step : StepValues) (s : Sources) → SameStep lines step s → (id node : ℕ) → n.nodes id ≡ Some node → node_value s net node ≡ values_at lines step id
