use Rattle.std.proofs.Common.{◌≡◌, ◌∙◌, Some, None, ap, map, sym}
use Rattle.arj_base.specs.Uid.{nobody}
use Rattle.arj_model.specs.Last.{first_values, writes_of}
use Rattle.arj_model.specs.Serial.{run, serial_calls}
use Rattle.arj_last.proofs.Counts.{places_same}
use Rattle.arj_last.proofs.Ends.{is_last, value_there, writes_have_lines}
use Rattle.arj_last.specs.Survivors.{count_wrotes, place_in, writer_after}
use Rattle.arj_last.proofs.state.last_state_of.Goals as goal

pub returns-in_default : goal.returns-in_default
returns-in_default c = λ kept written readable o is.
    let header = c.args.header.now in
    let lines = c.args.lines.now in
    let x = c.args.x in
    let ws = writes_of lines x in
    let are = c.in_ok-wrotes.ensures lines kept written in
    let places = sym (c.as_slice-3.ensures.value ∙ c.in_ok-places.ensures ∙ ap (map place_in) (c.as_slice.ensures.value ∙ are)
    ∙ places_same ws) in
    let has = c.in_ok-values.ensures ws places (writes_have_lines header lines x
    (c.readable_calls_can_be_run.ensures header lines readable)) in
    let e : None ≡ Some (run (first_values header) (serial_calls lines) x) =
    sym c.in_default.is ∙ c.take_value.ensures ∙ value_there header lines x o c.in_ok-values.values is has in cc e

pub returns : goal.returns
returns c = λ kept written readable o is.
    let header = c.args.header.now in
    let lines = c.args.lines.now in
    let x = c.args.x in
    let ws = writes_of lines x in
    let are = c.in_ok-wrotes.ensures lines kept written in
    let places = sym (c.as_slice-3.ensures.value ∙ c.in_ok-places.ensures ∙ ap (map place_in) (c.as_slice.ensures.value ∙ are)
    ∙ places_same ws) in
    let has = c.in_ok-values.ensures ws places (writes_have_lines header lines x
    (c.readable_calls_can_be_run.ensures header lines readable)) in
    let e : Some c.in-Some.value ≡ Some (run (first_values header) (serial_calls lines) x) =
    sym c.in-Some.is ∙ c.take_value.ensures ∙ value_there header lines x o c.in_ok-values.values is has in
    let value : c.in-Some.value ≡ run (first_values header) (serial_calls lines) x = cc e in
    is_last header lines x (record {
      value = c.in-Some.value;
      version = c.in_ok-version.version;
      writer =
          c.last_writer.result;
    }) c.in_ok-wrotes.wrotes.items are value (c.in_ok-version.ensures
    ∙ ap count_wrotes c.as_slice-2.ensures.value) (c.last_writer.ensures ∙ ap (writer_after nobody) c.as_slice-4.ensures.value)
