-- The number of each fault and each limit, beside the constant of the code that other definitions have for it.
use Rattle.std.specs.Prelude.{◌≡◌}
use Rattle.board_core.specs.declared.kept.TheConstants.{MAX_CYCLES, MAX_WINDOW}
use Rattle.kw_base.specs.declared.fault_number.TheConstants.{NO_TOKEN, UNEXPECTED_TOKEN, BRACKETS_TOO_DEEP, NUMBER_OUT_OF_RANGE, NAME_TOO_LONG, UNKNOWN_NAME, REPEATED_NAME, WRONG_TYPE, WRONG_WIDTH, WRONG_FIELD, WRONG_ARGUMENT_COUNT, RULE_TWICE_ON_A_PATH, WRONG_ENTRY_COUNT, UNKNOWN_HOST_FUNCTION, MALFORMED_ASSIGNMENT, UNKNOWN_INPUT, INPUT_TOO_WIDE, SOURCE_TOO_LONG, TOO_MANY_REGISTERS, TOO_MANY_RULES, TOO_MANY_NODES, TOO_HEAVY, RUN_TOO_LONG, TOO_DEEP, TOO_MANY_INPUTS, TOO_MANY_BITS, JOURNAL_TOO_LONG, MALFORMED_LINE, REPEATED_ID, UNDEFINED_ID, WRONG_SORT, FORM_LEFT_OUT, SORT_OUT_OF_RANGE, STATE_WITHOUT_NEXT, REPEATED_INIT_OR_NEXT, CONSTANT_TOO_GREAT, INIT_NOT_CONSTANT, MALFORMED_AIGER, VARIABLE_TOO_GREAT, VARIABLE_DEFINED_TWICE, NO_VARIABLE, UNDEFINED_VARIABLE, RESET_LEFT_OUT, MALFORMED_JOURNAL, NO_TRACE, WRONG_ANSWER, WRONG_BATCH}
use Rattle.typed_core.specs.declared.limits.TheConstants.{MAX_REGISTERS, MAX_INPUTS, MAX_RULES, MAX_NODES, MAX_TABLE_IN_WIDTH, PORTS}
use Rattle.koika_check.specs.declared.measure.TheConstants.{MAX_WEIGHT, MAX_DEPTH}
use Rattle.front_end.specs.declared.bits.TheConstants.{MOST_BITS}

-- tokens and grammar; names and types; stimuli; sources, limits and runs; BTOR2 texts; AIGER texts; journals
pub record AreFaultNumbers : Type 0 where
  pub no_token : NO_TOKEN ≡ 10
  pub unexpected_token : UNEXPECTED_TOKEN ≡ 11
  pub brackets_too_deep : BRACKETS_TOO_DEEP ≡ 12
  pub number_out_of_range : NUMBER_OUT_OF_RANGE ≡ 13
  pub name_too_long : NAME_TOO_LONG ≡ 14
  pub unknown_name : UNKNOWN_NAME ≡ 20
  pub repeated_name : REPEATED_NAME ≡ 21
  pub wrong_type : WRONG_TYPE ≡ 22
  pub wrong_width : WRONG_WIDTH ≡ 23
  pub wrong_field : WRONG_FIELD ≡ 24
  pub wrong_argument_count : WRONG_ARGUMENT_COUNT ≡ 25
  pub rule_twice_on_a_path : RULE_TWICE_ON_A_PATH ≡ 27
  pub wrong_entry_count : WRONG_ENTRY_COUNT ≡ 28
  pub unknown_host_function : UNKNOWN_HOST_FUNCTION ≡ 29
  pub malformed_assignment : MALFORMED_ASSIGNMENT ≡ 30
  pub unknown_input : UNKNOWN_INPUT ≡ 31
  pub input_too_wide : INPUT_TOO_WIDE ≡ 32
  pub source_too_long : SOURCE_TOO_LONG ≡ 40
  pub too_many_registers : TOO_MANY_REGISTERS ≡ 41
  pub too_many_rules : TOO_MANY_RULES ≡ 42
  pub too_many_nodes : TOO_MANY_NODES ≡ 43
  pub too_heavy : TOO_HEAVY ≡ 44
  pub run_too_long : RUN_TOO_LONG ≡ 45
  pub too_deep : TOO_DEEP ≡ 46
  pub too_many_inputs : TOO_MANY_INPUTS ≡ 47
  pub too_many_bits : TOO_MANY_BITS ≡ 48
  pub journal_too_long : JOURNAL_TOO_LONG ≡ 49
  pub malformed_line : MALFORMED_LINE ≡ 50
  pub repeated_id : REPEATED_ID ≡ 51
  pub undefined_id : UNDEFINED_ID ≡ 52
  pub wrong_sort : WRONG_SORT ≡ 53
  pub form_left_out : FORM_LEFT_OUT ≡ 54
  pub sort_out_of_range : SORT_OUT_OF_RANGE ≡ 55
  pub state_without_next : STATE_WITHOUT_NEXT ≡ 56
  pub repeated_init_or_next : REPEATED_INIT_OR_NEXT ≡ 57
  pub constant_too_great : CONSTANT_TOO_GREAT ≡ 58
  pub init_not_constant : INIT_NOT_CONSTANT ≡ 59
  pub malformed_aiger : MALFORMED_AIGER ≡ 70
  pub variable_too_great : VARIABLE_TOO_GREAT ≡ 71
  pub variable_defined_twice : VARIABLE_DEFINED_TWICE ≡ 72
  pub no_variable : NO_VARIABLE ≡ 73
  pub undefined_variable : UNDEFINED_VARIABLE ≡ 74
  pub reset_left_out : RESET_LEFT_OUT ≡ 75
  pub malformed_journal : MALFORMED_JOURNAL ≡ 80
  pub no_trace : NO_TRACE ≡ 81
  pub wrong_answer : WRONG_ANSWER ≡ 82
  pub wrong_batch : WRONG_BATCH ≡ 83

-- declarations, scheduler nodes, input bits of a table, ports, weight and depth, bit weight, cycles and a board's window
pub record AreLimits : Type 0 where
  pub max_registers : MAX_REGISTERS ≡ 256
  pub max_inputs : MAX_INPUTS ≡ 256
  pub max_rules : MAX_RULES ≡ 256
  pub max_nodes : MAX_NODES ≡ 1024
  pub max_table_in_width : MAX_TABLE_IN_WIDTH ≡ 12
  pub ports : PORTS ≡ 4
  pub max_weight : MAX_WEIGHT ≡ 32768
  pub max_depth : MAX_DEPTH ≡ 512
  pub most_bits : MOST_BITS ≡ 1048576
  pub max_cycles : MAX_CYCLES ≡ 16777216
  pub max_window : MAX_WINDOW ≡ 16
