-- Calls that are each answered by all writes before them give these answers one after another.
use Rattle.arj_law.proofs.Terms
use Terms.{◌≡◌, ◌<◌, ℕ, List, [], ◌∷◌, ◌++◌, Bool, true, false, cond, ◌&&◌, ◌==◌, nat_lt, refl, sym, ◌∙◌, ap, subst, filter, AllByRecursion}
use Terms.{eqb-true, lt-ltb, and_parts, and_cases, ⊎_elim, answer_of, value_after, writes, answer_text, Call, Values, Answers, after, run}
use Terms.{writes_on, writes_before, IsAnsweredBy}
use Rattle.arj_law.proofs.Common.{turned, not_below_itself, not_below_back, Pairwise, pairwise_before, pairwise_behind, filter_none}
use Rattle.arj_law.proofs.Common.{all_map}
use Rattle.arj_law.proofs.Moves.{other_stays, all_stay}
use Rattle.std.proofs.Common.{append_assoc}

-- what doesn't write an object leaves its value
pub unwritten_stays : (values : Values) (c : Call) (x : ℕ) → writes_on x c ≡ false → after values c x ≡ values x
unwritten_stays values c x e = ⊎_elim (λ other. other_stays values c x (turned c.x x other))
    (λ reads. ap (λ w. w x) (all_stay values c reads)) (and_cases (c.x == x) (writes c.op) e)

same_after : (values others : Values) (c : Call) (x : ℕ) → values x ≡ others x → writes_on x c ≡ true → after values c x ≡ after others c x
same_after values others c x same e =
    let at : c.x ≡ x = eqb-true c.x x (and_parts (c.x == x) (writes c.op) e).0 in
    let there : values c.x ≡ others c.x = ap values at ∙ same ∙ ap others (sym at) in
    (λ i. cond (x == c.x) (value_after c.op (there i)) (same i))

-- the value of an object after calls is that after the writes on it among them
pub run_writes : (values others : Values) (x : ℕ) (cs : List Call) → values x ≡ others x →
    run values (filter (writes_on x) cs) x ≡ run others cs x
run_writes values others x [] same = same
run_writes values others x (c ∷ cs) same = by (λ v w e. run_writes v w x cs e) (writes_on x c) refl
  where
    by : ((v w : Values) → v x ≡ w x → run v (filter (writes_on x) cs) x ≡ run w cs x) → (b : Bool) → writes_on x c ≡ b →
        run values (cond b (c ∷ filter (writes_on x) cs) (filter (writes_on x) cs)) x ≡ run (after others c) cs x
    by ih true e = ih (after values c) (after others c) (same_after values others c x same e)
    by ih false e = ih values (after others c) (same ∙ sym (unwritten_stays others c x e))

pub run-append : (values : Values) (cs ds : List Call) → run values (cs ++ ds) ≡ run (run values cs) ds
run-append values [] ds = refl
run-append values (c ∷ cs) ds = run-append (after values c) cs ds

-- the writes before a call are those of the list in front of it
before_writes : (front rest : List Call) (c : Call) → AllByRecursion (λ w. w.at < c.at) front → AllByRecursion (λ w. c.at < w.at) rest →
    writes_before (front ++ c ∷ rest) c ≡ filter (writes_on c.x) front
before_writes [] rest c fs rs =
    let none : AllByRecursion (λ w. (nat_lt w.at c.at && writes_on c.x w) ≡ false) rest =
    all_map (λ w. c.at < w.at) (λ w. (nat_lt w.at c.at && writes_on c.x w) ≡ false)
    (λ w e. (λ i. not_below_back c.at w.at e i && writes_on c.x w)) rest rs in
    filter_none (λ w. nat_lt w.at c.at && writes_on c.x w) (c ∷ rest) ((λ i. not_below_itself c.at i && writes_on c.x c), none)
before_writes (w ∷ front) rest c fs rs =
    let ih = before_writes front rest c fs.1 rs in
    (λ i. cond (lt-ltb w.at c.at fs.0 i && writes_on c.x w) (w ∷ ih i) (ih i))

pub book_answers : (values : Values) (front rest : List Call) → Pairwise (λ c d. c.at < d.at) (front ++ rest) →
    AllByRecursion (IsAnsweredBy values (front ++ rest)) rest → Answers (run values front) rest
book_answers values front [] p h = tt
book_answers values front (c ∷ rest) p h =
    let earlier = pairwise_before (λ (a b : Call). a.at < b.at) front c rest p in
    let later = pairwise_behind (λ (a b : Call). a.at < b.at) front c rest p in
    let found : run values (writes_before (front ++ c ∷ rest) c) c.x ≡ run values front c.x =
    ap (λ ws. run values ws c.x) (before_writes front rest c earlier later) ∙ run_writes values values c.x front refl in
    let more : (front ++ c ∷ []) ++ rest ≡ front ++ c ∷ rest = append_assoc front (c ∷ []) rest in (
      subst (λ v. answer_text (answer_of c.op v) ≡ c.answer) found h.0,
      subst (λ w. Answers w rest) (run-append values front (c ∷ []))
          (book_answers values (front ++ c ∷ []) rest (subst (Pairwise (λ a b. a.at < b.at)) (sym more) p)
          (subst (λ cs. AllByRecursion (IsAnsweredBy values cs) rest) (sym more) h.1)),
    )
