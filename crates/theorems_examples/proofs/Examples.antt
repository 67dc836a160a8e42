-- The examples of paper 01 that are marked m: one table, which the definitions answer by computation. Assumes nothing.
use mathlib.Core.Path.{refl}
use Rattle.model.specs.Rules.Outcome.{◌▷◌, provided, lowest}
use Rattle.model.specs.Rules.Search.{first_from, first_below, all_below, table_from, table, chosen, join_from, sum}
use Rattle.model.specs.Rules.Word.{
  bits_of,
  word_of,
  nearest,
  add_word,
  sub_word,
  mul_word,
  neg_word,
  less_word,
  same_word,
  min_word,
  max_word,
  if_word,
  two_at,
  four_at,
  word_at,
  two_bytes,
  four_bytes,
  word_bytes,
}
use Rattle.model.specs.Rules.Command.{declaration_of, declaration_at, plain_read, sampled_read, operator_of, operator_at}
use Rattle.model.specs.Rules.Program.{
  operator_here,
  node,
  parse_expr,
  parse_links,
  declare,
  room_for,
  declaration_here,
  parse_commands,
  parse_with,
  reads_of,
  lookups,
}
use Rattle.model.specs.Rules.Table.{contains, table_word, insert, by_low, row_bytes, table_bytes, rows_from, area_rows}
use Rattle.model.specs.Rules.Cover.{
  apart,
  meets_earlier,
  starting_at,
  continues,
  no_gap,
  covering,
  tabled,
  chained,
  area_ok,
}
use Rattle.model.specs.Rules.Rates.{
  read_faults,
  link_faults,
  declared_and_rated,
  is_multiple,
  hypercycle,
  count_reads,
  is_linked,
  linked,
}
use Rattle.model.specs.Rules.Schedule.{
  schedule_command_at,
  schedule_command,
  parse_puts,
  parse_schedule,
  is_put,
  put_faults,
  puts_faults,
  put_phase,
  schedule_of,
  placed,
}
use Rattle.model.specs.Rules.Reads.{due, stored, between, share, ordered, rank, settle, settled, is_met, met}
use Rattle.model.specs.Rules.Load.{load, loaded}
use Rattle.model.specs.Rules.Latency.{
  read_among,
  reads_back,
  used,
  back,
  source,
  latency_of,
  run_latency,
  from_of,
  window_of,
  keeps,
  timely,
}
use Rattle.model.specs.Rules.Image.{
  expr_code,
  codes,
  run_list,
  run_lists,
  offsets,
  records,
  rows_at,
  codes_at,
  length_of,
  head,
  image_of,
  tail_of,
  written_of,
}
use Rattle.model.specs.Rules.Machine.{
  operator_code,
  code_at,
  list_offset,
  table_offset,
  code_offset,
  list_of,
  code_of,
  command_ok,
  code_ok_from,
  code_ok,
  head_ok,
  lists_ok,
  table_ok,
  entries_ok,
  codes_ok,
  well_formed,
  image_part,
  lent_ok,
  run_command,
  run_from,
  run_code,
  run_signals,
  next_position,
  reset_words,
  cycle_words,
  reset_of,
  cycle_of,
}
use Rattle.model.specs.Rules.Compile.{short_enough, pair_of, verdict_of, compile_of}
use Rattle.model.specs.Rules.Report.{list_commands, cycle_commands, highest, counts_of, report_of}
use Rattle.model.specs.Says.Calls.{call_of, after, log_after}
use Rattle.model.specs.Rules.Decimal.{digits_up_to, natural, decimal, spaced, line_of}
use Rattle.model.specs.Rules.Script.{
  script_command_at,
  script_command,
  script_from,
  script_at,
  is_input_of,
  inputs_only,
  check_of,
  calls_from,
}
use Rattle.model.specs.Rules.Trial.{lines_from, trial_of}
use Rattle.theorems_streams.specs.Streams.{value}
use Rattle.theorems_streams.specs.Held.{lent_at}
use Rattle.model.specs.Rules.Dependents.{any_read, mark_readers, marks_after, dependents}
use Rattle.theorems_examples.specs.Examples.{ExamplesHold}

-- The definitions answer every question of the table as the paper does.
pub examples : ExamplesHold
unfolding ◌▷◌ provided lowest first_from first_below all_below table_from table chosen join_from sum bits_of word_of nearest add_word
    sub_word
    mul_word neg_word less_word same_word min_word max_word if_word two_at four_at word_at two_bytes four_bytes word_bytes declaration_of
    declaration_at plain_read sampled_read operator_of operator_at operator_here node parse_expr parse_links declare room_for
    declaration_here parse_commands parse_with reads_of read_faults link_faults declared_and_rated is_multiple hypercycle count_reads
    is_linked linked schedule_command_at schedule_command parse_puts parse_schedule is_put put_faults puts_faults put_phase schedule_of
    placed due stored between share ordered rank settle settled is_met met value load loaded read_among reads_back used back source
    latency_of run_latency from_of window_of keeps timely expr_code codes run_list run_lists offsets records codes_at length_of head
    image_of tail_of written_of operator_code code_at list_offset code_offset list_of code_of command_ok code_ok_from code_ok head_ok lists_ok
    entries_ok codes_ok well_formed image_part lent_ok run_command run_from run_code run_signals next_position reset_words cycle_words reset_of
    cycle_of short_enough pair_of verdict_of compile_of list_commands cycle_commands highest counts_of report_of call_of after log_after
    lent_at digits_up_to natural decimal spaced line_of script_command_at script_command script_from script_at is_input_of inputs_only check_of
    calls_from lines_from trial_of lookups contains table_word insert by_low row_bytes table_bytes rows_from area_rows apart meets_earlier
    starting_at continues no_gap covering tabled chained area_ok rows_at table_offset table_ok
    any_read mark_readers marks_after dependents
examples = refl
