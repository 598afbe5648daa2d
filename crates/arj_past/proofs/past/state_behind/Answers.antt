use Rattle.std.proofs.Common.{◌≡◌, ◌∙◌, Some, None, ap, map, sym}
use Rattle.arj_last.proofs.Counts.{places_same}
use Rattle.arj_last.specs.Survivors.{place_in}
use Rattle.arj_model.specs.Last.{first_values}
use Rattle.arj_model.specs.Serial.{run}
use Rattle.arj_past.proofs.Pasts.{is_behind}
use Rattle.arj_past.proofs.past.state_behind.Goals as goal

pub returns-in_default : goal.returns-in_default
returns-in_default c = λ o ws is are lines_there.
    let places = sym (c.as_slice.ensures.value ∙ c.in_ok-places.ensures ∙ ap (map place_in) are ∙ places_same ws) in
    let has = c.in_ok-values.ensures ws places lines_there in
    let e : None ≡ Some (run (first_values c.args.header.now) ws c.args.x) = sym c.in_default.is ∙ c.take_value.ensures ∙ has.value c.args.x o is in cc e

pub returns : goal.returns
returns c = λ o ws is are lines_there.
    let places = sym (c.as_slice.ensures.value ∙ c.in_ok-places.ensures ∙ ap (map place_in) are ∙ places_same ws) in
    let has = c.in_ok-values.ensures ws places lines_there in
    let e : Some c.in-Some.value ≡ Some (run (first_values c.args.header.now) ws c.args.x) = sym c.in-Some.is ∙ c.take_value.ensures ∙ has.value c.args.x o is in
    let value : c.in-Some.value ≡ run (first_values c.args.header.now) ws c.args.x = cc e in
    is_behind c.args.header.now c.args.x (record {
      value = c.in-Some.value;
      version = c.in_ok-version.version;
      writer = c.last_writer.result;
    }) c.args.wrotes.now ws are value c.in_ok-version.ensures c.last_writer.ensures
