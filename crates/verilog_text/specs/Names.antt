-- Names in a module. A name of a circuit that is a reserved word has a `$` after it, so no name is an escaped
-- identifier (2.7.1). No name of a circuit has a `$`.
use Rattle.std.specs.Prelude.{ℕ, ◌==◌, Bool, if◌then◌else◌, List, [], ◌∷◌, ◌++◌, bytes_eq, codes}
use Rattle.std.specs.List.{list_any, slice_split}

-- the reserved words of IEEE 1800-2017 (Annex B), and six words that tools reserve: `bool`, `mailbox`, `process`,
-- `semaphore`, `wone` and `wreal`
unfoldable pub reserved_text : List ℕ
reserved_text =
    codes "accept_on alias always always_comb always_ff always_latch and assert assign assume automatic "
    ++ codes "before begin bind bins binsof bit bool break buf bufif0 bufif1 byte case casex casez cell chandle "
    ++ codes "checker class clocking cmos config const constraint context continue cover covergroup coverpoint "
    ++ codes "cross deassign default defparam design disable dist do edge else end endcase endchecker endclass "
    ++ codes "endclocking endconfig endfunction endgenerate endgroup endinterface endmodule endpackage "
    ++ codes "endprimitive endprogram endproperty endsequence endspecify endtable endtask enum event eventually "
    ++ codes "expect export extends extern final first_match for force foreach forever fork forkjoin function "
    ++ codes "generate genvar global highz0 highz1 if iff ifnone ignore_bins illegal_bins implements implies "
    ++ codes "import incdir include initial inout input inside instance int integer interconnect interface "
    ++ codes "intersect join join_any join_none large let liblist library local localparam logic longint "
    ++ codes "macromodule mailbox matches medium modport module nand negedge nettype new nexttime nmos nor "
    ++ codes "noshowcancelled not notif0 notif1 null or output package packed parameter pmos posedge primitive "
    ++ codes "priority process program property protected pull0 pull1 pulldown pullup pulsestyle_ondetect "
    ++ codes "pulsestyle_onevent pure rand randc randcase randsequence rcmos real realtime ref reg reject_on "
    ++ codes "release repeat restrict return rnmos rpmos rtran rtranif0 rtranif1 s_always s_eventually "
    ++ codes "s_nexttime s_until s_until_with scalared semaphore sequence shortint shortreal showcancelled "
    ++ codes "signed small soft solve specify specparam static string strong strong0 strong1 struct super "
    ++ codes "supply0 supply1 sync_accept_on sync_reject_on table tagged task this throughout time timeprecision "
    ++ codes "timeunit tran tranif0 tranif1 tri tri0 tri1 triand trior trireg type typedef union unique unique0 "
    ++ codes "unsigned until until_with untyped use uwire var vectored virtual void wait wait_order wand weak "
    ++ codes "weak0 weak1 while wildcard wire with within wone wor wreal xnor xor"

-- words of the list are separated by single spaces
abbrev pub is_blank : ℕ → Bool
is_blank b = b == 32

-- whether a name is one of these words
unfoldable pub is_reserved : List ℕ → Bool
is_reserved name = list_any (λ word. bytes_eq word name) (slice_split is_blank reserved_text)

-- a name with a `$` after it where this holds
abbrev pub marked : Bool → List ℕ → List ℕ
marked holds name = if holds then name ++ 36 ∷ [] else name

-- how a name of a circuit is written
abbrev pub written : List ℕ → List ℕ
written name = marked (is_reserved name) name

-- whether a name is among these
unfoldable pub is_taken : List (List ℕ) → List ℕ → Bool
is_taken names name = list_any (λ other. bytes_eq other name) names

-- how a name of the module's own is written beside these names of a circuit, as that of its clock
abbrev pub own_name : List (List ℕ) → List ℕ → List ℕ
own_name names name = marked (is_taken names name) name
