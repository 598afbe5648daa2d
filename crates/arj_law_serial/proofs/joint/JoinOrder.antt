-- In which order the commits of decided tops of the journal were called, where one of them only included a store.
use Rattle.arj_law_parts.proofs.Words
use Words.{◌≡◌, ◌⊎◌, ◌<◌, ℕ, ◌==◌, ◌&&◌, ◌||◌, not, List, [], ◌∷◌, filter, cond, nat_lt, if◌then◌else◌, Bool, true, false, Contains, Option}
use Words.{Some, None, is_some, refl, sym, ◌∙◌, ap, subst, inl, inr, eq-eqb, In, in_from, in_to, Line, Wrote}
use Rattle.arj_law_serial.proofs.Terms
use Terms.{counts_of, Done, Packed, has, new_book, AreRight, State, Top, increasing, insert_number, is_among, joins_of, leaves_of, Values}
use Terms.{AreDecisions, IsDecision, Joined, WroteSo, IsTied, IncludersTakeTurns, IncludesNone, JoinersAreNewestFirst, IsCalledBefore}
use Terms.words as disk
use Rattle.arj_law_runs.proofs.journal.Books.{never}
use Rattle.arj_law_serial.proofs.joint.Called.{IsOf, called_in_turn, its_top_of, there_before}
use Rattle.arj_law_serial.proofs.order.Values.{to_filter}
use Rattle.arj_law_serial.specs.joint.Includers.{DecidedJoinersStand}

-- ---- parts of these

includers_left : (lines : List Line) (p : Done → Bool) (ds : List Done) → IncludersTakeTurns lines ds →
    IncludersTakeTurns lines (filter p ds)
includers_left lines p [] turns = tt
includers_left lines p (d ∷ ds) turns = by (p d) (includers_left lines p ds turns.1)
  where
    by : (b : Bool) → IncludersTakeTurns lines (filter p ds) → IncludersTakeTurns lines (cond b (d ∷ filter p ds) (filter p ds))
    by true ih = (λ e k. turns.0 e (there_before p e ds k), ih)
    by false ih = ih

pub counts_there : (d : Done) (ds : List Done) → disk.In d (filter counts_of ds) → d.counts ≡ true
counts_there d [] i = absurd i
counts_there d (e ∷ ds) i = by e.counts refl i (counts_there d ds)
  where
    by : (b : Bool) → e.counts ≡ b → disk.In d (cond b (e ∷ filter counts_of ds) (filter counts_of ds)) →
        (disk.In d (filter counts_of ds) → d.counts ≡ true) → d.counts ≡ true
    by true is (inl same) ih = ap counts_of (sym same) ∙ is
    by true is (inr k) ih = ih k
    by false is k ih = ih k

-- ---- lists of stores

none_inserted : (n : ℕ) (ms : List ℕ) → insert_number n ms ≡ [] → ⊥
none_inserted n [] is = cc is
none_inserted n (m ∷ ms) is = by (n == m) (nat_lt n m) is
  where
    by : (b c : Bool) → (if b then m ∷ ms else (if c then n ∷ m ∷ ms else m ∷ insert_number n ms)) ≡ [] → ⊥
    by true c is = cc is
    by false true is = cc is
    by false false is = cc is

none_sorted : (ns : List ℕ) → increasing ns ≡ [] → ns ≡ []
none_sorted [] is = refl
none_sorted (n ∷ ns) is = absurd (none_inserted n (increasing ns) is)

pub none_there : (ns : List ℕ) → ((s : ℕ) → has s ns ≡ true → ⊥) → ns ≡ []
none_there [] none = refl
none_there (s ∷ ns) none = absurd (none s (ap (λ b. b || has s ns) (eq-eqb s s refl)))

-- ---- decided tops

module _ (values : Values) (lines : List Line) (x : ℕ) (S : State) (right : AreRight new_book lines) (t : IsTied values lines x S) where
  pub its_at : (ds : List Done) (us : List Top) → AreDecisions values lines x ds us → (u : Top) → In u us →
      (d : Done) × disk.In d ds × IsDecision values lines x d u
  its_at [] [] are u k = absurd k
  its_at [] (w ∷ us) are u k = absurd are
  its_at (d ∷ ds) [] are u k = absurd k
  its_at (d ∷ ds) (w ∷ us) are u (inl same) = (d, inl refl, subst (IsDecision values lines x d) same are.0)
  its_at (d ∷ ds) (w ∷ us) are u (inr k) = let r = its_at ds us are.1 u k in (r.0, inr r.1, r.2)

  wrote_of : (u : Top) (o : Option Packed) → is_some o ≡ true → WroteSo values lines x u o → Wrote lines x u
  wrote_of u None some is = absurd (cc some)
  wrote_of u (Some w) some (c, last, writer, content) = (c, last.there, last.write, last.whose)

  -- one whose plan changes and includes nothing included nothing
  unjoined : (d : Done) (u : Top) → IsDecision values lines x d u → (let p = d.plan in p.writes) ≡ None →
      ((s : ℕ) → has s (let p = d.plan in p.joins) ≡ true → ⊥) → Joined lines x u → ⊥
  unjoined d u is none nothing (n, there) =
      subst (In n) gone (to_filter kept n (joins_of lines u.id x) (in_from n (joins_of lines u.id x) there) (ap not out))
    where
      kept : ℕ → Bool
      kept s = not (is_among (leaves_of lines u.id x) s)

      empty : (let p = d.plan in p.joins) ≡ []
      empty = none_there (let p = d.plan in p.joins) nothing

      gone : filter kept (joins_of lines u.id x) ≡ []
      gone = none_sorted (filter kept (joins_of lines u.id x)) (sym is.joins ∙ ap (filter d.got) empty)

      out : is_among (leaves_of lines u.id x) n ≡ false
      out = sym (is.leaves n) ∙ ap (λ (o : Option Packed). ((is_some o && has n (let p = d.plan in p.list)) || has n (let p = d.plan in
          p.joins)) && not (d.got n)) none ∙ ap (λ js. has n js && not (d.got n)) empty

  stand : (ds : List Done) (us : List Top) → IncludersTakeTurns lines ds → ((d : Done) → disk.In d ds → d.counts ≡ true) → AreDecisions
      values lines x ds us → ((u : Top) → Contains us u → (Wrote lines x u → ⊥) → Joined lines x u) → JoinersAreNewestFirst lines x us
  stand [] [] turns counts are changed = tt
  stand [] (w ∷ us) turns counts are changed = absurd are
  stand (d ∷ ds) [] turns counts are changed = absurd are
  stand (d ∷ ds) (w ∷ us) turns counts are changed =
      (first, stand ds us turns.1 (λ e i. counts e (inr i)) are.1 (λ u i. changed u (in_to u (w ∷ us) (inr (in_from u us i)))))
    where
      first : (u : Top) → Contains us u → (Wrote lines x u → Wrote lines x w → ⊥) → u.at < w.at
      first u i one = by (turns.0 e r.1 (let k = m.its in k.act.uid) (let k = n.its in
          k.act.uid) (counts d (inl refl)) (counts e (inr r.1)) (sym m.number) (sym n.number))
        where
          r : (e : Done) × disk.In e ds × IsDecision values lines x e u
          r = its_at ds us are.1 u (in_from u us i)

          e : Done
          e = r.0

          m : IsOf values lines x S right t e u
          m = its_top_of values lines x S right t e u r.2

          n : IsOf values lines x S right t d w
          n = its_top_of values lines x S right t d w are.0

          other : (o : Option Packed) → (let p = d.plan in p.writes) ≡ o → ((s : ℕ) → has s (let p = d.plan in p.joins) ≡ true → ⊥) →
              ((let p = d.plan in p.writes) ≡ None) ⊎ (is_some (let p = e.plan in p.writes) ≡ true) → ⊥
          other None is nothing rest =
              let q = are.0 in
              let silent = subst (WroteSo values lines x w) is q.wrote in
              unjoined d w q is nothing
              (changed w (in_to w (w ∷ us) (inl refl)) (λ (c, listed, write, whose). never write (silent c listed whose)))
          other (Some v) is nothing (inl none) = let no_way : ◌≡◌ {A = Option Packed} (Some v) None = sym is ∙ none in cc no_way
          other (Some v) is nothing (inr some) = let q = are.0 in let z = r.2 in
              one (wrote_of u (let p = e.plan in p.writes) some z.wrote) (wrote_of w (let p = d.plan in p.writes) (ap is_some is) q.wrote)

          by : IsCalledBefore lines (let k = m.its in k.act.uid) (let k = n.its in k.act.uid) ⊎ IncludesNone d.plan e.plan → u.at < w.at
          by (inl before) = called_in_turn values lines right x S t u w (let k = m.its in k.act) (let k = n.its in k.act) m.listed n.listed
              (let k = m.its in k.there) (let k = n.its in k.there) (let k = m.its in k.number) (let k = n.its in k.number) before
          by (inr (nothing, rest)) = absurd (other (let p = d.plan in p.writes) refl nothing rest)

pub decided_joiners_stand : DecidedJoinersStand
decided_joiners_stand values lines x S right t ds those turns are changed =
    stand values lines x S right t (filter counts_of ds) those (includers_left lines counts_of ds turns) (λ d i. counts_there d ds i) are
    changed
