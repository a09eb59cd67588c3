-- A source with a certificate: a design, a stimulus and the certificate, each after a line `%%` but the first. The
-- certificate of a run is a journal, that of an invariant is the invariant and a proof, after one more such line
-- (McConnell et al., Certifying algorithms, Computer Science Review 2011). What a certificate certifies is said
-- elsewhere.
use Rattle.std.specs.Prelude.{◌≡◌, ℕ, ◌+◌, ◌-◌, ◌<◌, ◌≤◌, ◌⊎◌, Bool, List, length, position, Result, Ok, Err, if◌then◌else◌, is_some}
use Rattle.std.specs.List.{slice_split}
use Rattle.kw_base.specs.Place.{capped}
use Rattle.kw_base.specs.declared.fault.Fault.{Fault}
use Rattle.kw_bits.specs.declared.host.HostSpec.{HostSpec}
use Rattle.one_rule.specs.Stimulus.{InputVectors}
use Rattle.koika_check.specs.declared.checked.Checked.{Checked}
use Rattle.kw_base.specs.Texts as texts
use Rattle.stim_report.specs.Cuts as cuts
use Rattle.stim_report.specs.Stimuli.{stimulus_of}
use Rattle.front_end.specs.Sources.{IsIllTyped, SpellsDesign, fault_of_source, longest_source, shape_of}

-- ---- parts

-- a source with a certificate may have this many bytes
abbrev pub longest_certified : ℕ
longest_certified = 268435456

-- the bytes before the first line `%%`, those up to the second one, and those after it, with the numbers of the lines
-- with which they begin
pub record CertifiedParts : Type 0 where
  pub design : List ℕ
  pub stimulus : List ℕ
  pub stimulus_line : ℕ
  pub certificate : List ℕ
  pub certificate_line : ℕ

-- there is a line `%%`
abbrev pub has_mark : List ℕ → Bool
has_mark bytes = is_some (position cuts.is_mark (slice_split texts.ends_line bytes))

-- the number of the line after the last one of a source
abbrev pub end_line : List ℕ → ℕ
end_line source = capped (1 + length (texts.lines_of source))

-- the number of the line with which the bytes after the next mark begin, where the bytes before and after it begin with
-- the line of this number; without a mark it is the line after the last
abbrev pub line_after_mark : (source rest : List ℕ) → ℕ → ℕ
line_after_mark source rest number = if has_mark rest then capped (number + (cuts.parts_of rest).first_line - 1) else end_line source

-- the design, the stimulus and the certificate of a source
abbrev pub parts_of : List ℕ → CertifiedParts
parts_of source =
    let front = cuts.parts_of source in
    let back = cuts.parts_of front.stimulus in
    record {
      design = front.design;
      stimulus = back.design;
      stimulus_line = front.first_line;
      certificate = back.stimulus;
      certificate_line = line_after_mark source front.stimulus front.first_line;
    }

-- a certificate of two parts: the bytes before its own first line `%%`, and those after it
pub record ProofParts : Type 0 where
  pub invariant : List ℕ
  pub invariant_line : ℕ
  pub refutation : List ℕ
  pub refutation_line : ℕ

-- the invariant of a source and its refutation
abbrev pub proof_parts_of : List ℕ → ProofParts
proof_parts_of source =
    let parts = parts_of source in
    let ends = cuts.parts_of parts.certificate in
    record {
      invariant = ends.design;
      invariant_line = parts.certificate_line;
      refutation = ends.stimulus;
      refutation_line = line_after_mark source parts.certificate parts.certificate_line;
    }

-- ---- designs and stimuli

-- the stimulus of a source for a design, or its first fault
abbrev pub stimulus_in : List ℕ → Checked → Result InputVectors Fault
stimulus_in source design = let parts = parts_of source in stimulus_of (shape_of design) parts.stimulus_line parts.stimulus

-- the source isn't too long, and its first part spells this design, as a source by itself
pub record SpellsFirst (hosts : List HostSpec) (source : List ℕ) (design : Checked) : Type 0 where
  pub short : length source ≤ longest_certified
  pub spelled : SpellsDesign hosts (parts_of source).design design

-- and its second part this stimulus for it
pub record SpellsBoth (hosts : List HostSpec) (source : List ℕ) (design : Checked) (stimulus : InputVectors) : Type 0 where
  pub first : SpellsFirst hosts source design
  pub given : stimulus_in source design ≡ Ok stimulus

-- ---- faults

-- 40 where the source, or its first part, is too long
abbrev pub IsTooLong : List ℕ → Fault → Type 0
IsTooLong source fault = (fault ≡ fault_of_source 40) × ((longest_certified < length source) ⊎ (longest_source < length (parts_of source).design))

-- else the first fault of the design, as of a source by itself
abbrev pub HasNoDesign : List HostSpec → List ℕ → Fault → Type 0
HasNoDesign hosts source fault = (length source ≤ longest_certified) × IsIllTyped hosts (parts_of source).design fault

-- else that of the stimulus
abbrev pub HasNoStimulus : List HostSpec → List ℕ → Fault → Type 0
HasNoStimulus hosts source fault = (design : Checked) × SpellsFirst hosts source design × (stimulus_in source design ≡ Err fault)

-- the first two parts spell no design with a stimulus, and this is why
abbrev pub HasNoParts : List HostSpec → List ℕ → Fault → Type 0
HasNoParts hosts source fault = IsTooLong source fault ⊎ (HasNoDesign hosts source fault ⊎ HasNoStimulus hosts source fault)
