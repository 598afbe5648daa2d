-- Two fronts of the writes on an object are one where as many tops made them, or where one top made the last of each.
use Rattle.std.proofs.Common.{◌≡◌, ◌≢◌, ◌≤◌, inl, inr, ℕ, ◌+◌, List, [], ◌∷◌, Bool, true, false, cond, not, Option, Some, None}
use Rattle.std.proofs.Common.{refl, sym, ◌∙◌, ap, subst, arith, filter}
use Rattle.std.specs.List.{AllByRecursion}
use Rattle.arj_base.specs.declared.uid.Uid.{Uid}
use Rattle.arj_law.proofs.Common.{Pairwise, all_map, lex_same, lex_turn, never}
use Rattle.arj_model.specs.Calls.{Call}
use Rattle.arj_model.specs.Last.{count_tops, writer_from}
use Rattle.arj_model.specs.Serial.{lex}
use Rattle.arj_past.proofs.Fronts.{LastIsUp, StandsBefore, count_turns, front_up, turns, up_to}
use Rattle.arj_past.specs.Rows.{front_from, was}
use Rattle.arj_replay.proofs.Keys.{lex_then}

-- ---- places

lex_trans : (a b c : List ℕ) → lex a b ≡ true → lex b c ≡ true → lex a c ≡ true
lex_trans a b c e f = lex_then a b c e (lex_turn b c f)

module _ (key : ℕ → List ℕ) where
  abbrev pub IsUp : List ℕ → Call → Type 0
  IsUp place c = lex place (key c.top) ≡ false

  up_before : (place : List ℕ) (c d : Call) → StandsBefore key c d → IsUp place d → IsUp place c
  up_before place c d (inl same) up = ap (λ t. lex place (key t)) same ∙ up
  up_before place c d (inr less) up = by (lex place (key c.top)) refl
    where
      by : (b : Bool) → lex place (key c.top) ≡ b → b ≡ false
      by false e = refl
      by true e = never (lex place (key d.top)) (lex_trans place (key c.top) (key d.top) e less) up

  -- there is a place that all are up to
  pub end_place : (cs : List Call) → Pairwise (StandsBefore key) cs → (place : List ℕ) × AllByRecursion (IsUp place) cs
  end_place [] sorted = ([], tt)
  end_place (c ∷ []) sorted = (key c.top, (lex_same (key c.top), tt))
  end_place (c ∷ d ∷ cs) sorted = let r = end_place (d ∷ cs) sorted.1 in (r.0, (up_before r.0 c d sorted.0.0 r.1.0, r.1))

  pub all_up : (place : List ℕ) (cs : List Call) → AllByRecursion (IsUp place) cs → filter (up_to key place) cs ≡ cs
  all_up place [] up = refl
  all_up place (c ∷ cs) up =
      (λ i. cond (not (up.0 i)) (c ∷ filter (up_to key place) cs) (filter (up_to key place) cs)) ∙ ap (λ ds. c ∷ ds) (all_up place cs up.1)

  past_all : (place : List ℕ) (c : Call) (cs : List Call) → lex place (key c.top) ≡ true → AllByRecursion (StandsBefore key c) cs →
      AllByRecursion (λ (d : Call). lex place (key d.top) ≡ true) cs
  past_all place c cs past before = all_map (StandsBefore key c) (λ (d : Call). lex place (key d.top) ≡ true)
      (λ d stands. beyond d stands) cs before
    where
      beyond : (d : Call) → StandsBefore key c d → lex place (key d.top) ≡ true
      beyond d (inl same) = ap (λ t. lex place (key t)) (sym same) ∙ past
      beyond d (inr less) = lex_trans place (key c.top) (key d.top) past less

  none_left : (place : List ℕ) (cs : List Call) → AllByRecursion (λ (d : Call). lex place (key d.top) ≡ true) cs →
      filter (up_to key place) cs ≡ []
  none_left place [] past = refl
  none_left place (c ∷ cs) past =
      (λ i. cond (not (past.0 i)) (c ∷ filter (up_to key place) cs) (filter (up_to key place) cs)) ∙ none_left place cs past.1

  -- ---- by how many tops

  -- the front up to a place
  abbrev pub front : List ℕ → List Call → List Call
  front place cs = filter (up_to key place) cs

  pairwise_front : (place : List ℕ) (cs : List Call) → Pairwise (StandsBefore key) cs → Pairwise (StandsBefore key) (front place cs)
  pairwise_front place [] sorted = tt
  pairwise_front place (c ∷ cs) sorted = by (up_to key place c) (pairwise_front place cs sorted.1)
    where
      left : (ds : List Call) → AllByRecursion (StandsBefore key c) ds → AllByRecursion (StandsBefore key c) (front place ds)
      left [] all = tt
      left (d ∷ ds) all = by (up_to key place d) (left ds all.1)
        where
          by : (b : Bool) → AllByRecursion (StandsBefore key c) (front place ds) →
              AllByRecursion (StandsBefore key c) (cond b (d ∷ front place ds) (front place ds))
          by true ih = (all.0, ih)
          by false ih = ih

      by : (b : Bool) → Pairwise (StandsBefore key) (front place cs) →
          Pairwise (StandsBefore key) (cond b (c ∷ front place cs) (front place cs))
      by true ih = (left cs sorted.0, ih)
      by false ih = ih

  -- fronts of as many tops are one
  pub same_count : (p q : List ℕ) (cs : List Call) → Pairwise (StandsBefore key) cs →
      count_tops (front p cs) ≡ count_tops (front q cs) → front p cs ≡ front q cs
  same_count p q cs sorted same =
      sym (front_up key p None cs tt sorted)
      ∙ ap (λ n. front_from (λ (c : Call). c.top) None n cs)
      (sym (count_turns key (front p cs) (pairwise_front p cs sorted)) ∙ same ∙ count_turns key (front q cs) (pairwise_front q cs sorted))
      ∙ front_up key q None cs tt sorted

  turns_less : (place : List ℕ) (last : Option ℕ) (cs : List Call) → Pairwise (StandsBefore key) cs →
      turns last (front place cs) ≤ turns last cs
  turns_less place last [] sorted = omega arith
  turns_less place last (c ∷ cs) sorted = by (lex place (key c.top)) refl (turns_less place (Some c.top) cs sorted.1)
    where
      by : (b : Bool) → lex place (key c.top) ≡ b → turns (Some c.top) (front place cs) ≤ turns (Some c.top) cs →
          turns last (cond (not b) (c ∷ front place cs) (front place cs)) ≤ cond (was last c.top) 0 1 + turns (Some c.top) cs
      by false e ih = let n : ℕ = cond (was last c.top) 0 1 in omega (arith, ih)
      by true e ih =
          let none : front place cs ≡ [] = none_left place cs (past_all place c cs e sorted.0) in
          subst (λ ds. turns last ds ≤ cond (was last c.top) 0 1 + turns (Some c.top) cs) (sym none) (omega arith)

  -- a front is of no more tops than all
  pub count_less : (place : List ℕ) (cs : List Call) → Pairwise (StandsBefore key) cs → count_tops (front place cs) ≤ count_tops cs
  count_less place cs sorted =
      let less = turns_less place None cs sorted in
      let one = count_turns key (front place cs) (pairwise_front place cs sorted) in
      let two = count_turns key cs sorted in
      omega (arith, less, one, two)

  -- ---- by the last writer

  -- one Uid is of one top
  abbrev pub IsOneTop : Call → Call → Type 0
  IsOneTop c d = d.writer ≡ c.writer → d.top ≡ c.top

  last_made : (P : Call → Type 0) (u : Uid) (c : Call) (cs : List Call) → AllByRecursion P (c ∷ cs) →
      (e : Call) × P e × (writer_from u (c ∷ cs) ≡ e.writer)
  last_made P u c [] all = (c, all.0, refl)
  last_made P u c (d ∷ cs) all = last_made P c.writer d cs all.1

  all_front : (P : Call → Type 0) (place : List ℕ) (cs : List Call) → AllByRecursion P cs → AllByRecursion P (front place cs)
  all_front P place [] all = tt
  all_front P place (c ∷ cs) all = by (up_to key place c) (all_front P place cs all.1)
    where
      by : (b : Bool) → AllByRecursion P (front place cs) → AllByRecursion P (cond b (c ∷ front place cs) (front place cs))
      by true ih = (all.0, ih)
      by false ih = ih

  -- who wrote a call is the one before only where its top is the last one's
  abbrev IsOf : Uid → Option ℕ → Call → Type 0
  IsOf u last c = c.writer ≡ u → (t : ℕ) × (last ≡ Some t) × (c.top ≡ t)

  both_all : (P Q : Call → Type 0) (cs : List Call) → AllByRecursion P cs → AllByRecursion Q cs → AllByRecursion (λ c. P c × Q c) cs
  both_all P Q [] ps qs = tt
  both_all P Q (c ∷ cs) ps qs = ((ps.0, qs.0), both_all P Q cs ps.1 qs.1)

  -- of the next ones so much
  next_of : (c : Call) (cs : List Call) → AllByRecursion (IsOneTop c) cs → AllByRecursion (IsOf c.writer (Some c.top)) cs
  next_of c cs one = all_map (IsOneTop c) (IsOf c.writer (Some c.top)) (λ d h same. (c.top, refl, h same)) cs one

  same_writer_from : (p q : List ℕ) (u : Uid) (last : Option ℕ) (cs : List Call) → LastIsUp key p last → LastIsUp key q last →
      Pairwise (StandsBefore key) cs → Pairwise IsOneTop cs → AllByRecursion (IsOf u last) cs →
      writer_from u (front p cs) ≡ writer_from u (front q cs) → front p cs ≡ front q cs
  same_writer_from p q u last [] lp lq sorted one of same = refl
  same_writer_from p q u last (c ∷ cs) lp lq sorted one of same =
      by (lex p (key c.top)) refl (lex q (key c.top)) refl same
      (λ e f is. same_writer_from p q c.writer (Some c.top) cs e f sorted.1 one.1 (next_of c cs one.0) is)
    where
      F : List ℕ → Bool → List Call
      F r b = cond (not b) (c ∷ front r cs) (front r cs)

      -- one ends before this call, and the other doesn't
      apart : (r s : List ℕ) → LastIsUp key r last → lex r (key c.top) ≡ true → writer_from u [] ≡ writer_from u (c ∷ front s cs) → ⊥
      apart r s lr past is =
          let all : AllByRecursion (λ (d : Call). IsOf u last d × (lex r (key d.top) ≡ true)) (c ∷ front s cs) = (
            (of.0, past),
            all_front (λ (d : Call). IsOf u last d × (lex r (key d.top) ≡ true)) s cs
                (both_all (IsOf u last) (λ (d : Call). lex r (key d.top) ≡ true) cs of.1 (past_all r c cs past sorted.0)),
          ) in
          let m = last_made (λ (d : Call). IsOf u last d × (lex r (key d.top) ≡ true)) u c (front s cs) all in
          let h = m.1 in
          let t = h.0 (sym m.2 ∙ sym is) in
          never (lex r (key (let e = m.0 in e.top))) h.1
          (ap (λ n. lex r (key n)) t.2 ∙ subst (LastIsUp key r) t.1 lr)

      by : (a : Bool) → lex p (key c.top) ≡ a → (b : Bool) → lex q (key c.top) ≡ b → writer_from u (F p a) ≡ writer_from u (F q b) →
          (lex p (key c.top) ≡ false → lex q (key c.top) ≡ false → writer_from c.writer (front p cs) ≡ writer_from c.writer (front q cs) →
          front p cs ≡ front q cs) → F p a ≡ F q b
      by false e false f is ih = ap (λ ds. c ∷ ds) (ih e f is)
      by true e true f is ih =
          none_left p cs (past_all p c cs e sorted.0) ∙ sym (none_left q cs (past_all q c cs f sorted.0))
      by true e false f is ih =
          absurd (apart p q lp e (ap (writer_from u) (sym (none_left p cs (past_all p c cs e sorted.0))) ∙ is))
      by false e true f is ih =
          absurd (apart q p lq f (ap (writer_from u) (sym (none_left q cs (past_all q c cs f sorted.0))) ∙ sym is))

  -- fronts whose last writer is one are one
  pub same_writer : (u : Uid) (p q : List ℕ) (cs : List Call) → Pairwise (StandsBefore key) cs → Pairwise IsOneTop cs →
      AllByRecursion (λ (c : Call). c.writer ≢ u) cs → writer_from u (front p cs) ≡ writer_from u (front q cs) → front p cs ≡ front q cs
  same_writer u p q cs sorted one other same = same_writer_from p q u None cs tt tt sorted one
      (all_map (λ (c : Call). c.writer ≢ u) (IsOf u None) (λ c no is. absurd (no is)) cs other) same
