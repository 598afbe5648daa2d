-- The last state of an object, by the writes that count.
use Rattle.std.proofs.Common.{◌≡◌, ℕ, ◌+◌, List, map, Some, refl, sym, ◌∙◌, ap, arith}
use Rattle.std.specs.BTreeMap.{BTreeMap, get}
use Rattle.std.specs.Ordering.{nat_cmp}
use Rattle.std.specs.List.{AllByRecursion}
use Rattle.arj_base.specs.Uid.{nobody}
use Rattle.arj_class.specs.declared.value.Value.{Value}
use Rattle.arj_journal.specs.declared.body.Line.{Line}
use Rattle.arj_journal.specs.declared.header.Header.{Header}
use Rattle.arj_journal.specs.declared.header.ObjectLine.{ObjectLine}
use Rattle.arj_law.proofs.Last.{all_filtered, value_of_writes}
use Rattle.arj_law.proofs.Moves.{all_arrange}
use Rattle.arj_model.specs.Calls.{committed_calls, tops}
use Rattle.arj_model.specs.Last.{count_tops, first_values, last_state, object_line, writes_of}
use Rattle.arj_model.specs.Serial.{run, serial_calls, serial_less, writes_on}
use Rattle.arj_replay.specs.Verdict.{HasCall, HasValues}
use Rattle.arj_last.proofs.Counts.{count_same, writer_same}
use Rattle.arj_last.specs.State.{IsLast}
use Rattle.arj_last.specs.Survivors.{count_wrotes, writer_after, wrote_of}
use Rattle.arj_last.specs.declared.picked.Wrote.{Wrote}
use Rattle.arj_last.specs.declared.state.LastState.{LastState}

-- the writes on an object can be run
pub writes_have_lines : (header : Header) (lines : List Line) (x : ℕ) → AllByRecursion (HasCall header lines) (committed_calls lines) →
    AllByRecursion (HasCall header lines) (writes_of lines x)
writes_have_lines header lines x all =
    all_filtered (HasCall header lines) (writes_on x) (serial_calls lines) (all_arrange (HasCall header lines) (serial_less (tops lines))
    (committed_calls lines) all)

-- its value after them
pub value_there : (header : Header) (lines : List Line) (x : ℕ) (o : ObjectLine) (m : BTreeMap ℕ Value) → object_line header x ≡ Some o →
    HasValues header (run (first_values header) (writes_of lines x)) m →
    get nat_cmp m x ≡ Some (run (first_values header) (serial_calls lines) x)
value_there header lines x o m is has = has.value x o is ∙ ap Some (sym (value_of_writes (first_values header) lines x))

none_more : (n : ℕ) → n ≡ 0 + n
none_more n = omega arith

pub is_last : (header : Header) (lines : List Line) (x : ℕ) (s : LastState) (ws : List Wrote) → ws ≡ map wrote_of (writes_of lines x)
    → s.value ≡ run (first_values header) (serial_calls lines) x → s.version ≡ count_wrotes ws → s.writer ≡ writer_after nobody ws →
    IsLast header lines x s
is_last header lines x s ws are value version writer = record {
  value = value;
  version = version ∙ ap count_wrotes are ∙ count_same (writes_of lines x) ∙ none_more (count_tops (writes_of lines x));
  writer = writer ∙ ap (writer_after nobody) are ∙ writer_same nobody (writes_of lines x);
}
