use Rattle.std.proofs.Common.{refl}
use Rattle.koika_top.proofs.laws.numbers.Goals as goal

pub returns-clause-faults : goal.returns-clause-faults
returns-clause-faults c = record { no_token = refl; unexpected_token = refl; brackets_too_deep = refl; number_out_of_range = refl; name_too_long = refl; unknown_name = refl; repeated_name = refl; wrong_type = refl; wrong_width = refl; wrong_field = refl; wrong_argument_count = refl; rule_twice_on_a_path = refl; wrong_entry_count = refl; unknown_host_function = refl; malformed_assignment = refl; unknown_input = refl; input_too_wide = refl; source_too_long = refl; too_many_registers = refl; too_many_rules = refl; too_many_nodes = refl; too_heavy = refl; run_too_long = refl; too_deep = refl; too_many_inputs = refl; too_many_bits = refl; journal_too_long = refl; malformed_line = refl; repeated_id = refl; undefined_id = refl; wrong_sort = refl; form_left_out = refl; sort_out_of_range = refl; state_without_next = refl; repeated_init_or_next = refl; constant_too_great = refl; init_not_constant = refl; malformed_aiger = refl; variable_too_great = refl; variable_defined_twice = refl; no_variable = refl; undefined_variable = refl; reset_left_out = refl; malformed_journal = refl; no_trace = refl; wrong_answer = refl; wrong_batch = refl }

pub returns-clause-limits : goal.returns-clause-limits
returns-clause-limits c = record { max_registers = refl; max_inputs = refl; max_rules = refl; max_nodes = refl; max_table_in_width = refl; ports = refl; max_weight = refl; max_depth = refl; most_bits = refl; max_cycles = refl; max_window = refl }
