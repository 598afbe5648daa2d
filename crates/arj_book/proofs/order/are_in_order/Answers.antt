use Rattle.std.proofs.Common.{rules, ◌≡◌, ◌<◌, ◌+◌, ◌&&◌, ◌∙◌, length, ap, sym, drop, true, false, nat_le, if◌then◌else◌}
use Rattle.arj_book.specs.Ends.{ends_in}
use Rattle.arj_book.specs.Kept.{end_with, stand_behind}
use Rattle.arj_class.specs.Table.{writes}
use Rattle.arj_replay.proofs.Runs.{next_place}
use Rattle.arj_book.proofs.order.are_in_order.Goals as goal

pub loop-place-init : goal.loop-place-init
loop-place-init c = λ header cs same all. λ i. stand_behind (c.new-ends.ensures.0 i) (c.new-ends.ensures.1 i) cs

pub returns-then-not-behind : goal.returns-then-not-behind
returns-then-not-behind c = λ header cs same all.
    let lt : c.loop-place.place-index < length c.args.places.now = search rules in
    let n = next_place header c.args.lines.now cs c.args.places.now c.loop-place.place-index same lt all in
    let any = ends_in c.loop-place.ends.any in
    let wrote = ends_in c.loop-place.ends.wrote in
    let test : c.in_ok-behind.behind ≡ nat_le (if writes n.call.op then any n.call.x else wrote n.call.x) n.call.at =
    c.in_ok-behind.ensures.test header n.call n.at n.has in
    let fails : false ≡ nat_le (if writes n.call.op then any n.call.x else wrote n.call.x) n.call.at = sym c.if-not-behind.true ∙ test in
    (λ k. fails k && stand_behind (end_with true any n.call.x n.call.at) (end_with (writes n.call.op) wrote n.call.x n.call.at) (drop (c.loop-place.place-index + 1) cs))
    ∙ sym (ap (stand_behind any wrote) n.rest) ∙ c.loop-place.invariant header cs same all

pub loop-place-preserved : goal.loop-place-preserved
loop-place-preserved c = λ header cs same all.
    let lt : c.loop-place.place-index < length c.args.places.now = search rules in
    let n = next_place header c.args.lines.now cs c.args.places.now c.loop-place.place-index same lt all in
    let any = ends_in c.loop-place.ends.any in
    let wrote = ends_in c.loop-place.ends.wrote in
    let test : c.in_ok-behind.behind ≡ nat_le (if writes n.call.op then any n.call.x else wrote n.call.x) n.call.at =
    c.in_ok-behind.ensures.test header n.call n.at n.has in
    let holds : true ≡ nat_le (if writes n.call.op then any n.call.x else wrote n.call.x) n.call.at = sym c.if-not-behind.false ∙ test in
    (λ k. stand_behind (λ y. c.in_ok-behind.ensures.any header n.call n.at n.has y k) (λ y. c.in_ok-behind.ensures.wrote header n.call n.at n.has y k) (drop (c.loop-place.place-index + 1) cs))
    ∙ (λ k. holds k && stand_behind (end_with true any n.call.x n.call.at) (end_with (writes n.call.op) wrote n.call.x n.call.at) (drop (c.loop-place.place-index + 1) cs))
    ∙ sym (ap (stand_behind any wrote) n.rest) ∙ c.loop-place.invariant header cs same all
