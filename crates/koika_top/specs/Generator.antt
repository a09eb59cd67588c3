-- The pipeline design of that many stages, in the form that designs are printed in: a design of any size to measure
-- and to compare engines on. Stage i is a flag v and a word d; `drain` empties the last stage, `move` i hands a word
-- on to the next one, and `fill` feeds the first.
use Rattle.std.specs.Prelude.{ℕ, zero, suc, ◌+◌, ◌==◌, if◌then◌else◌, List, [], ◌∷◌, ◌++◌, codes, decimal}
use Rattle.std.specs.List.{flat_map}

-- what a byte of a template stands for: `#` is a stage's number, `@` that of the stage after it, and `/` a line feed
abbrev pub filled_byte : ℕ → ℕ → List ℕ
filled_byte stage byte =
    if byte == 35 then decimal stage
    else if byte == 64 then decimal (stage + 1)
    else if byte == 47 then 10 ∷ []
    else byte ∷ []

-- a template with a stage filled in
abbrev pub filled : List ℕ → ℕ → List ℕ
filled template stage = flat_map (filled_byte stage) template

-- a template for each of the stages below a number, the first one first or last
abbrev pub ascending : List ℕ → ℕ → List ℕ
ascending template zero = []
ascending template (suc stage) = ascending template stage ++ filled template stage

-- a template filled with each stage's number, the last stage first
abbrev pub descending : List ℕ → ℕ → List ℕ
descending template zero = []
descending template (suc stage) = filled template stage ++ descending template stage

-- the registers of a stage
abbrev pub stage_registers : List ℕ
stage_registers = codes "reg v# : bits 1 = 1'd0 ;/reg d# : bits 32 = 32'd0 ;/"

-- the two registers that there are once
abbrev pub other_registers : List ℕ
other_registers = codes "reg total : bits 32 = 32'd0 ;/reg feed : bits 32 = 32'd0 ;/"

-- the rule that takes from the last stage
abbrev pub drain : List ℕ
drain = codes "rule drain {/if read0 ( v# ) {/write0 ( v# , 1'd0 ) ;/write0 ( total , read0 ( total ) + read0 ( d# ) ) }/else {/abort }/}/"

-- the rule that moves a value to the next stage
abbrev pub move_on : List ℕ
move_on = codes "rule move# {/if read0 ( v# ) & ~ read1 ( v@ ) {/write0 ( v# , 1'd0 ) ;/write1 ( v@ , 1'd1 ) ;/write1 ( d@ , read0 ( d# ) + 32'd1 ) }/else {/abort }/}/"

-- the rule that puts a value into the first stage
abbrev pub fill : List ℕ
fill = codes "rule fill {/if ~ read1 ( v0 ) {/write1 ( v0 , 1'd1 ) ;/write1 ( d0 , read0 ( feed ) ) ;/write0 ( feed , read0 ( feed ) + 32'd1 ) }/else {/abort }/}/"

-- the registers of stages 0 to the last, the rules, and the schedule in the order of the rules
unfoldable pub pipeline : ℕ → List ℕ
pipeline stages =
    ascending stage_registers (stages + 1) ++ filled other_registers stages
    ++ filled drain stages ++ descending move_on stages ++ filled fill stages
    ++ filled (codes "schedule {/drain ;/") stages ++ descending (codes "move# ;/") stages ++ filled (codes "fill ;/}/") stages
