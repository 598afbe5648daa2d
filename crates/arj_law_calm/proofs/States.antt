-- The states that an object had: each is the last one, or from before it; and of one version, or by one writer, there is one.
use Rattle.std.proofs.Common.{◌≡◌, ◌≢◌, ◌<◌, ◌≤◌, ◌⊎◌, ◌+◌, ◌==◌, inl, inr, ℕ, List, Bool, true, false, refl, sym, ◌∙◌}
use Rattle.std.proofs.Common.{ap, subst, arith, eqb-true}
use Rattle.std.proofs.lemmas.Bool.{eq-eqb}
use Rattle.std.proofs.lemmas.Bool.Decides.{nat_tests}
use Rattle.std.specs.List.{AllByRecursion}
use Rattle.arj_base.specs.Uid.{nobody, object}
use Rattle.arj_base.specs.declared.state.ObjectState.{ObjectState}
use Rattle.arj_journal.specs.declared.body.Line.{Line}
use Rattle.arj_journal.specs.declared.header.Header.{Header}
use Rattle.arj_law.proofs.{Answers.run_writes, Common.Pairwise, Common.never, Last.value_of_writes}
use Rattle.arj_law.specs.Joined.{mark_of}
use Rattle.arj_model.specs.Calls.{Call, tops}
use Rattle.arj_model.specs.Last.{count_tops, first_values, last_state, state_after, writer_from, writes_of}
use Rattle.arj_model.specs.Serial.{run, serial_key}
use Rattle.arj_past.proofs.Fronts.{StandsBefore}
use Rattle.arj_past.proofs.Pasts.{writes_to}
use Rattle.arj_past.specs.Past.{calls_to, state_to}
use Rattle.arj_promise.specs.Starts.{AreOne, IsBefore}
use Rattle.arj_start.specs.Start.{unwritten}
use Rattle.arj_law_calm.proofs.Fronts.{IsOneTop, all_up, count_less, end_place, front, same_count, same_writer}

module _ (header : Header) (lines : List Line) (x : ℕ) where
  abbrev key : ℕ → List ℕ
  key = serial_key (tops lines)

  abbrev ws : List Call
  ws = writes_of lines x

  -- the state behind these writes
  abbrev behind : List Call → ObjectState
  behind cs = state_after header.format unwritten x (run (first_values header) cs x) cs

  -- where the writes stand in serial order, and each is by one top of its Uid
  module _ (stand : Pairwise (StandsBefore key) ws) (one : Pairwise (IsOneTop key) ws)
      (written : AllByRecursion (λ (c : Call). c.writer ≢ nobody) ws) where
    state_front : (place : List ℕ) → state_to header lines place x ≡ behind (front key place ws)
    state_front place = λ i. state_after header.format unwritten x (value i) (writes_to lines x place i)
      where
        value : run (first_values header) (calls_to lines place) x ≡ run (first_values header) (front key place ws) x
        value = sym (run_writes (first_values header) (first_values header) x (calls_to lines place) refl)
            ∙ ap (λ cs. run (first_values header) cs x) (writes_to lines x place)

    last_behind : last_state header lines x ≡ behind ws
    last_behind = λ i. state_after header.format unwritten x (value_of_writes (first_values header) lines x i) ws

    abbrev end : List ℕ
    end = (end_place key ws stand).0

    all : front key end ws ≡ ws
    all = all_up key end ws (end_place key ws stand).1

    no_more : (m n : ℕ) → 0 + m ≡ 0 + n → m ≡ n
    no_more m n same = omega (arith, same)

    -- it is of no more tops than all
    pub count_to : (place : List ℕ) → (state_to header lines place x).version ≤ 0 + count_tops ws
    count_to place = subst (λ (s : ObjectState). s.version ≤ 0 + count_tops ws) (sym (state_front place))
        (let less = count_less key place ws stand in omega (arith, less))

    -- it is the last one, or from before it
    pub was : (place : List ℕ) → (state_to header lines place x ≡ last_state header lines x)
        ⊎ IsBefore (state_to header lines place x) (mark_of (last_state header lines x))
    was place = by (count_tops (front key place ws) == count_tops ws) refl
      where
        by : (b : Bool) → (count_tops (front key place ws) == count_tops ws) ≡ b →
            (state_to header lines place x ≡ last_state header lines x)
            ⊎ IsBefore (state_to header lines place x) (mark_of (last_state header lines x))
        by true e = inl (state_front place ∙ ap behind (same_count key place end ws stand
            (eqb-true (count_tops (front key place ws)) (count_tops ws) e ∙ ap count_tops (sym all)) ∙ all) ∙ sym last_behind)
        by false e = inr (subst (λ (s : ObjectState). IsBefore s (mark_of (last_state header lines x))) (sym (state_front place))
            (subst (λ (s : ObjectState). IsBefore (behind (front key place ws)) (mark_of s)) (sym last_behind) (record {
              below = low (count_tops (front key place ws)) (count_tops ws) (count_less key place ws stand) e;
              other = λ same. never (count_tops (front key place ws) == count_tops ws) (eq-eqb (count_tops (front key place ws))
                  (count_tops ws)
                  (ap count_tops (same_writer key nobody place end ws stand one written
                  (same ∙ ap (writer_from nobody) (sym all)) ∙ all))) e;
            })))
          where
            low : (m n : ℕ) → m ≤ n → (m == n) ≡ false → 0 + m < 0 + n
            low m n le other = grind (arith, nat_tests, le, other)

    -- two of them are one where they have one version, or one writer
    pub are_one : (p q : List ℕ) → AreOne (state_to header lines p x) (state_to header lines q x)
    are_one p q = record {
      version = λ u same. joined (same_count key p q ws stand (no_more (count_tops (front key p ws)) (count_tops (front key q ws))
          (ap (λ (s : ObjectState). s.version) (sym (state_front p)) ∙ same ∙ ap (λ (s : ObjectState). s.version) (state_front q))));
      writer = λ u same. joined (same_writer key nobody p q ws stand one written
          (ap (λ (s : ObjectState). s.writer) (sym (state_front p)) ∙ same ∙ ap (λ (s : ObjectState). s.writer) (state_front q)));
    }
      where
        joined : front key p ws ≡ front key q ws → state_to header lines p x ≡ state_to header lines q x
        joined same = state_front p ∙ ap behind same ∙ sym (state_front q)
