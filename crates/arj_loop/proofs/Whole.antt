-- The run of a whole script: where it begins, what was written, and why it ends.
use Rattle.std.proofs.Common.{◌≡◌, ◌⊎◌, inl, inr, Bool, ℕ, ◌+◌, ◌≤◌, ◌<◌, List, [], ◌∷◌, ◌++◌, length, take, false, Option, Some, None}
use Rattle.std.proofs.Common.{Result, Err, refl, sym, ◌∙◌, ap, subst, arith, append_assoc}
use Rattle.std.specs.Prelude.{drop, ◌-◌}
use Rattle.std.specs.List.{list_any}
use Rattle.std.proofs.Math.Seq.{take-append-add, take-length}
use Rattle.std.proofs.lemmas.List.{append-nil, take_rest}
use Rattle.std.proofs.lemmas.Grind.{flat_map-append}
use Rattle.std.proofs.lemmas.Bool.{or_from, le-ltb}
use Rattle.arj_io.specs.Told.{Takes}
use Rattle.arj_io.proofs.Told.{takes_more}
use Rattle.arj_journal.specs.declared.body.Line.{Line}
use Rattle.arj_journal.specs.LineText.{text, line_text}
use Rattle.arj_script.specs.Grammar.{Form, IsBadLine, Place, Running, Start, begun, next_place}
use Rattle.arj_script.specs.Input.{Stopped, AtEnd, AtFault, is_too_long}
use Rattle.arj_loop.specs.Input.{script}
use Rattle.arj_loop.specs.Replayed.{TookFront}
use Rattle.arj_loop.specs.declared.machine.Machine.{Ghosts}
use Rattle.arj_loop.specs.Running.{Stage, StageOf, Reached, Gathers, Fronts, end_of, hand, overflown}
use Rattle.arj_loop.specs.declared.ending.BadLine.{BadLine}
use Rattle.arj_loop.specs.declared.ending.End.{End}
use Rattle.arj_loop.specs.declared.ending.End.TheVariants as ending
use Rattle.arj_loop.specs.declared.run.Runner.{Runner}
use Rattle.arj_loop.proofs.Stages.{Limited}
use Rattle.arj_loop.specs.Forms.{HaveForms, IsBadBy}

-- where it begins
pub stage_first : {D M : Type 0} (view : Ghosts M D) (rack : List D) → view.ready rack → Stage view rack rack [] Start (hand None 0 [])
stage_first view rack ready = record {
  forms = [];
  header = begun 1;
  read = refl;
  counted = refl;
  within = omega arith;
  machine_is = (λ e. absurd (let never : Start ≡ Running = e in cc), refl, refl, refl, refl, ready);
}

-- nothing written
pub takes_nothing : (taken : Option (List ℕ)) → Takes taken [] taken
takes_nothing None = tt
takes_nothing (Some bytes) = sym (append-nil bytes)

pub gathers_first : (journal : List Line) (waiting : List ℕ) (taken : Option (List ℕ)) → journal ≡ [] → waiting ≡ [] →
    Gathers journal waiting taken taken
gathers_first journal waiting taken fresh none = ([], ap text fresh ∙ sym none, takes_nothing taken)

-- lines more, whose text waits
pub gathers_more : (journal lines : List Line) (waiting after : List ℕ) (t u : Option (List ℕ)) → after ≡ waiting ++ text lines →
    Gathers journal waiting t u → Gathers (journal ++ lines) after t u
gathers_more journal lines waiting after t u is g =
    (g.0, flat_map-append line_text journal lines ∙ (ap (λ bytes. bytes ++ text lines) g.1 ∙ (append_assoc g.0 waiting (text lines) ∙ ap (λ bytes. g.0 ++ bytes) (sym is))), g.2)

-- what waited was taken
pub gathers_taken : (journal : List Line) (waiting : List ℕ) (t u v : Option (List ℕ)) → Gathers journal waiting t u → Takes u waiting v →
    Takes t (text journal) v
gathers_taken journal waiting t u v g more = subst (λ bytes. Takes t bytes v) (sym g.1) (takes_more t u v g.0 waiting g.2 more)

pub gathers_empty : (journal : List Line) (waiting after : List ℕ) (t u v : Option (List ℕ)) → after ≡ [] → Gathers journal waiting t u →
    Takes u waiting v → Gathers journal after t v
gathers_empty journal waiting after t u v none g more =
    (text journal, sym (append-nil (text journal)) ∙ ap (λ bytes. text journal ++ bytes) (sym none), gathers_taken journal waiting t u v g more)

pub gathers_kept : (journal : List Line) (waiting after : List ℕ) (t u : Option (List ℕ)) → after ≡ waiting → Gathers journal waiting t u →
    Gathers journal after t u
gathers_kept journal waiting after t u same g = subst (λ w. Gathers journal w t u) (sym same) g

-- or a front of it
pub gathers_front : (journal : List Line) (waiting : List ℕ) (count : ℕ) (t u v : Option (List ℕ)) → Gathers journal waiting t u →
    Takes u (take count waiting) v → Fronts journal t v
gathers_front journal waiting count t u v g more =
    let front : take (length g.0 + count) (text journal) ≡ g.0 ++ take count waiting =
    ap (λ bytes. take (length g.0 + count) bytes) g.1 ∙ take-append-add g.0 waiting count in
    (length g.0 + count, subst (λ bytes. Takes t bytes v) (sym front) (takes_more t u v g.0 (take count waiting) g.2 more))

-- the whole text is a front of itself
pub whole_front : (journal : List Line) (t u : Option (List ℕ)) → Takes t (text journal) u → TookFront 5 journal t u
whole_front journal t u took = (length (text journal), subst (λ bytes. Takes t bytes u) (sym (take-length (text journal))) took, λ _. refl)

pub front_at_4 : (journal : List Line) (t u : Option (List ℕ)) → Fronts journal t u → TookFront 4 journal t u
front_at_4 journal t u front = (front.0, front.1, λ e. absurd (omega (arith, e)))

-- the lines behind those that were there
behind : (before after added : List Line) → after ≡ before ++ added →
    before ++ take (length after - length before) (drop (length before) after) ≡ after
behind before after added is =
    let dropped : drop (length before) after ≡ added = ap (drop (length before)) is ∙ drop_front before added in
    ap (λ ls. before ++ ls) (take_rest after (length before) ∙ dropped) ∙ sym is
  where
    drop_front : (a b : List Line) → drop (length a) (a ++ b) ≡ b
    drop_front [] b = refl
    drop_front (x ∷ a) b = drop_front a b

pub behind_as : (before after added b a : List Line) → b ≡ before → a ≡ after → after ≡ before ++ added →
    before ++ take (length a - length b) (drop (length b) a) ≡ after
behind_as before after added b a same_before same_after is =
    (λ i. before ++ take (length (same_after i) - length (same_before i)) (drop (length (same_before i)) (same_after i))) ∙ behind before after added is

-- lines that were run are short
pub all_short : (p : Place) (lines : List (List ℕ)) (forms : List Form) (q : Place) → HaveForms p lines forms q →
    list_any is_too_long lines ≡ false
all_short p [] forms q h = refl
all_short p (l ∷ lines) [] q h = absurd h
all_short p (l ∷ lines) (f ∷ forms) q h =
    or_from (is_too_long l) (list_any is_too_long lines) (le-ltb 500 (length l) h.0.short) (all_short (next_place p f) lines forms q h.1)

pub stage_start : {D M : Type 0} (view : Ghosts M D) (rack : List D) (place : Place) (machine : Option M) (count : ℕ) (journal : List Line) → view.ready rack → place ≡ Start → machine ≡ None → count ≡ 0 → journal ≡ [] → Stage view rack rack [] place (hand machine count journal)
stage_start {D} {M} view rack place machine count journal ready p e n j =
    subst (λ js. Stage view rack rack [] place (hand machine count js)) (sym j)
    (subst (λ k. Stage view rack rack [] place (hand machine k [])) (sym n)
    (subst (λ en. Stage view rack rack [] place (hand en 0 [])) (sym e)
    (subst (λ q. Stage view rack rack [] q (hand None 0 [])) (sym p) (stage_first view rack ready))))

-- behind a line more
pub whole_next : (lines done rest : List (List ℕ)) (line : List ℕ) (tail : List (List ℕ)) → lines ≡ done ++ rest → rest ≡ line ∷ tail →
    lines ≡ (done ++ line ∷ []) ++ tail
whole_next lines done rest line tail whole cut = whole ∙ (ap (λ ls. done ++ ls) cut ∙ sym (append_assoc done (line ∷ []) tail))

-- why the run ends where the input was read to its end and every line was run
pub end_reached : {D M : Type 0} (view : Ghosts M D) (first rack : List D) (lines done : List (List ℕ)) (runner : Runner M) (journal : List Line)
    → lines ≡ done → StageOf view first rack done runner journal → overflown view runner.machine ≡ false →
    Reached view first rack (script AtEnd lines) (hand runner.machine runner.lines journal) (end_of runner.machine)
end_reached view first rack lines done runner journal whole s going =
    end_by view first rack lines done runner.reader runner.machine runner.lines journal (whole ∙ sym (append-nil done)) s going
  where
    end_by : {D M : Type 0} (view : Ghosts M D) (first rack : List D) (lines done : List (List ℕ)) (place : Place) (machine : Option M) (count : ℕ) (journal : List Line)
        → lines ≡ done ++ [] → Stage view first rack done place (hand machine count journal) → overflown view machine ≡ false →
        Reached view first rack (script AtEnd lines) (hand machine count journal) (end_of machine)
    end_by view first rack lines done place (Some machine) count journal whole s going =
        record { place = place; done = done; rest = []; whole = whole; stage = s; why = (refl, refl, s.machine_is.0); going = λ _. going }
    end_by view first rack lines done place None count journal whole s going =
        record {
          place = place;
          done = done;
          rest = [];
          whole = whole;
          stage = s;
          why = inr (refl, refl, s.machine_is.0, refl);
          going =
              λ _. going;
        }

-- or a read failed
pub fault_reached : {D M : Type 0} (view : Ghosts M D) (first rack : List D) (lines done : List (List ℕ)) (runner : Runner M) (journal : List Line)
    → lines ≡ done → StageOf view first rack done runner journal → overflown view runner.machine ≡ false →
    Reached view first rack (script AtFault lines) (hand runner.machine runner.lines journal) ending.Fault
fault_reached view first rack lines done runner journal whole s going =
    record {
      place = runner.reader;
      done = done;
      rest = [];
      whole = whole ∙ sym (append-nil done);
      stage = s;
      why = (refl, refl);
      going =
          λ _. going;
    }

abbrev pub IsEnd : End → End → Type 0
IsEnd end other = let found : Result (Unit {0}) End = Err end in found ≡ Err other

-- an end that left all as it was
kept_reached : {D M : Type 0} (view : Ghosts M D) (first rack after_rack : List D) (stopped : Stopped) (lines : List (List ℕ)) (before after : Runner M) (journal after_journal : List Line) (end : End)
    → after.machine ≡ before.machine → after.lines ≡ before.lines → after_rack ≡ rack → after_journal ≡ journal
    → Reached view first rack (script stopped lines) (hand before.machine before.lines journal) end →
    Reached view first after_rack (script stopped lines) (hand after.machine after.lines after_journal) end
kept_reached view first rack after_rack stopped lines before after journal after_journal end engine count racks still reached =
    subst (λ js. Reached view first after_rack (script stopped lines) (hand after.machine after.lines js) end) (sym still)
    (subst (λ r. Reached view first r (script stopped lines) (hand after.machine after.lines journal) end) (sym racks)
    (subst (λ n. Reached view first rack (script stopped lines) (hand after.machine n journal) end) (sym count)
    (subst (λ en. Reached view first rack (script stopped lines) (hand en before.lines journal) end) (sym engine) reached)))

-- why the run ends at a line
pub line_reached : {D M : Type 0} (view : Ghosts M D) (first rack after_rack : List D) (stopped : Stopped) (lines done rest : List (List ℕ)) (line : List ℕ) (tail : List (List ℕ)) (before after : Runner M) (journal after_journal : List Line) (end : End)
    → lines ≡ done ++ rest → rest ≡ line ∷ tail → StageOf view first rack done before journal → after_journal ≡ journal
    → ((w : BadLine) → IsEnd end (ending.Bad w) →
    (before.lines < 100000 ⊎ (500 < length line)) × IsBadLine before.reader line × IsBadBy w before.reader line)
    → (IsEnd end ending.Lines → (100000 ≤ before.lines) × (length line ≤ 500))
    → (((w : BadLine) × IsEnd end (ending.Bad w)) ⊎ IsEnd end ending.Lines →
    (after.machine ≡ before.machine) × (after.lines ≡ before.lines) × (after_rack ≡ rack))
    → (IsEnd end ending.Labels → Limited view first after_rack done after.reader after.machine after.lines after_journal line)
    → overflown view before.machine ≡ false → (IsEnd end ending.Labels → overflown view after.machine ≡ false)
    → (end ≡ ending.Write → ⊥) → (end ≡ ending.Memory → ⊥) → (end ≡ ending.Format → ⊥) → (end ≡ ending.Whole → ⊥) →
    (end ≡ ending.Fault → ⊥) → (end ≡ ending.Frames → ⊥)
    → Reached view first after_rack (script stopped lines) (hand after.machine after.lines after_journal) end
line_reached view first rack after_rack stopped lines done rest line tail before after journal after_journal (ending.Bad why) whole cut s still bad many kept labels going labels_going a b c d e f =
    let k = kept (inl (why, refl)) in
    let w = bad why refl in
    kept_reached view first rack after_rack stopped lines before after journal after_journal (ending.Bad why) k.0 k.1 k.2 still
    (record {
      place = before.reader;
      done = done;
      rest = rest;
      whole = whole;
      stage = s;
      why = inl (line, tail, cut, w.0, w.1, w.2);
      going =
          λ _. going;
    })
line_reached view first rack after_rack stopped lines done rest line tail before after journal after_journal ending.Lines whole cut s still bad many kept labels going labels_going a b c d e f =
    let k = kept (inr refl) in
    let w = many refl in
    kept_reached view first rack after_rack stopped lines before after journal after_journal ending.Lines k.0 k.1 k.2 still
    (record {
      place = before.reader;
      done = done;
      rest = rest;
      whole = whole;
      stage = s;
      why =
          (line, tail, cut, omega (arith, w.0, s.within), w.1);
      going = λ _. going;
    })
line_reached view first rack after_rack stopped lines done rest line tail before after journal after_journal ending.Labels whole cut s still bad many kept labels going labels_going a b c d e f =
    let w = labels refl in
    record {
      place = after.reader;
      done = done;
      rest = rest;
      whole = whole;
      stage = w.0;
      why = (line, tail, cut, w.1, w.2);
      going =
          λ _. labels_going refl;
    }
line_reached view first rack after_rack stopped lines done rest line tail before after journal after_journal ending.Write whole cut s still bad many kept labels going labels_going a b c d e f = absurd (a refl)
line_reached view first rack after_rack stopped lines done rest line tail before after journal after_journal ending.Memory whole cut s still bad many kept labels going labels_going a b c d e f = absurd (b refl)
line_reached view first rack after_rack stopped lines done rest line tail before after journal after_journal ending.Format whole cut s still bad many kept labels going labels_going a b c d e f = absurd (c refl)
line_reached view first rack after_rack stopped lines done rest line tail before after journal after_journal ending.Whole whole cut s still bad many kept labels going labels_going a b c d e f = absurd (d refl)
line_reached view first rack after_rack stopped lines done rest line tail before after journal after_journal ending.Fault whole cut s still bad many kept labels going labels_going a b c d e f = absurd (e refl)
line_reached view first rack after_rack stopped lines done rest line tail before after journal after_journal ending.Frames whole cut s still bad many kept labels going labels_going a b c d e f = absurd (f refl)
