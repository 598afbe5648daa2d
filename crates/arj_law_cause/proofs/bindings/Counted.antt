-- Naming's incarnation, count and turns are those of the journal, and each binding that it has stands there, of its object and server.
use Rattle.arj_law_parts.proofs.Words
use Words.{◌≡◌, ◌⊎◌, ◌≤◌, ◌<◌, ◌∙◌, ◌+◌, ◌==◌, ◌++◌, ◌&&◌, ℕ, Bool, true, false, cond, List, [], ◌∷◌, length, map, Option, Some}
use Words.{None, refl}
use Words.{sym, ap, subst, inl, inr, ⊎_elim, ⊤, arith, append-nil, append_assoc, length-append, list_all, and_parts, eqb-true, eq-eqb}
use Words.{option_map}
use Words.{Ask, Binding, Body, BoundReply, Head, Header, Line, Message, ObjectState, Path, Start, Uid, asks}
use Words.{asked_by}
use Words.{response, Reply, Disk, Do, Effect, Say, Send, Served, void, Counted, Named, bind_named, bound_new, lock_lines, locked}
use Words.{next_server}
use Words.{named_back, recovered_naming, Pair, Naming, is_over, listed_entry, on_counted, at_number, put_number, put_other, put_same}
use Words.{top_of}
use Words.{Handled, Parts, Took, Void, handle, handle_ask, is_meant, served, if_naming, sends_answer, taken}
use Words.{with_naming}
use Words.{parts_in, restart_outs, is_eq, nat_cmp, is_coord_line, is_naming_line}
use Words.{is_server_line, numbered, Seen, nat_tests}
use Words.ask
use Words.body
use Words.mode
use Words.naming
use Rattle.arj_law_parts.proofs.steps.Still.{Still, is_still, says_still, taken_good}
use Rattle.arj_law_parts.specs.moves.Keeps.{IsAtStarts, Keeps}
use Rattle.arj_law_parts.specs.moves.Seen.{AreQuiet, down, is_quiet_line}
use Rattle.arj_law_runs.proofs.bindings.Handled as handled
use Rattle.arj_law_runs.proofs.bindings.Weights.{bind_by, binds, weigh}
use Rattle.arj_law_runs.proofs.calls.Given.{KeepsGiven, kept_both}
use Rattle.arj_law_runs.proofs.calls.MadeLines.{fewer, lines_both}
use Rattle.arj_law_runs.proofs.follow.Halts as halts
use Rattle.arj_law_runs.proofs.follow.Uids.{KnowsNext, next_keep}
use Rattle.arj_law_runs.proofs.kept.Starts.{first_up}
use Rattle.arj_law_runs.proofs.kept.Walked.{same_number}
use Rattle.arj_law_runs.specs.calls.Bindings.{bindings_made, bound_by}
use Rattle.arj_law_serial.proofs.holding.Says as saying
use Rattle.arj_model.specs.Actions.{Placed}
use Rattle.arj_model.specs.CauseCopies as copies
use Rattle.arj_model.specs.CauseLocks.{bound_last}
use Rattle.arj_model.specs.Refusals.{incarnation}
use Rattle.arj_law_cause.proofs.bindings.Binding.{IsLight, bind_shape, locks_plain}
use Rattle.arj_law_cause.proofs.bindings.Lines.{IsLined, inc_still, inc_with, lined_last, lined_more, lined_parts, lined_still, made}
use Rattle.arj_law_cause.proofs.bindings.Lines.{made_active}
use Rattle.arj_law_cause.proofs.bindings.Lines.{made_off, made_still, made_with, tells}
use Rattle.arj_law_cause.proofs.bindings.Named.{IsNamingSo, IsNamedSo, OfServer, made_put, named_same, naming_map, recovered_so}
use Rattle.arj_law_cause.proofs.bindings.Nodes as nodes
use Rattle.arj_law_cause.proofs.bindings.Nodes.{ArePlain, coord_all, is_own, is_plain, own_all}
use Rattle.arj_law_cause.proofs.bindings.Staying.{StaysBy, is_bind, message_stays, turn_at, turn_in}
use Rattle.arj_law_parts.proofs.parts.LivesNamed.{keyed_found, keyed_put}

none_is : {A P : Type 0} {x : A} → None ≡ Some x → P
none_is {A} {P} {x} is = let no_way : ◌≡◌ {A = Option A} None (Some x) = is in absurd (cc no_way)

some_is : {A : Type 0} {a b : A} → Some a ≡ Some b → a ≡ b
some_is {A} {a} {b} is = let k : ◌≡◌ {A = Option A} (Some a) (Some b) = is in cc

-- ---- what is known

-- the binding stands in the journal, and is of naming's present incarnation
abbrev pub lined_in : Start → List Line → OfServer
lined_in st ls x b s = IsLined ls x b s × (b.inc ≡ incarnation st ls 1)

-- naming, by the lines
pub record IsCounted (j : ℕ) (o : Naming) (st : Start) (ls : List Line) : Type 0 where
  pub first : j ≡ 1
  pub inc : o.inc ≡ incarnation st ls 1
  pub count : o.count ≡ length (made ls)
  pub turns : (x : ℕ) → turn_at x o ≡ bound_last x None (made ls)
  pub lined : IsNamingSo (lined_in st ls) (λ x b s i. ⊤) o

-- so it is of a node, where it has naming
abbrev pub HasNames : ℕ → Parts → Start → List Line → Type 0
HasNames j t st ls = (o : Naming) → t.naming ≡ Some o → IsCounted j o st ls

-- the binding was made before the next one
abbrev pub IsBefore : ℕ → ℕ → Binding → Type 0
IsBefore i n b = (b.inc < i) ⊎ ((b.inc ≡ i) × (b.count ≤ n))

-- Each binding of the journal was made before naming's next one, has a count that is no higher than bindings were made, and is of one
-- object and one server.
pub record IsGiven (st : Start) (ls : List Line) : Type 0 where
  pub older : (x : ℕ) (b : Binding) (s : ℕ) → IsLined ls x b s → IsBefore (incarnation st ls 1) (length (made ls)) b
  pub small : (x : ℕ) (b : Binding) (s : ℕ) → IsLined ls x b s → b.count ≤ bindings_made ls
  pub some : (x : ℕ) (b : Binding) (s : ℕ) → IsLined ls x b s → 1 ≤ b.count
  pub one : (x y : ℕ) (b : Binding) (s t : ℕ) → IsLined ls x b s → IsLined ls y b t → (x ≡ y) × (s ≡ t)
  pub long : length (made ls) ≤ bindings_made ls

-- ---- lines that change none of it

counted_moved : (j : ℕ) (o : Naming) (st : Start) (ls ms : List Line) → made ms ≡ made ls → incarnation st ms 1 ≡ incarnation st ls 1 →
    ((x : ℕ) (b : Binding) (s : ℕ) → IsLined ls x b s → IsLined ms x b s) → IsCounted j o st ls → IsCounted j o st ms
counted_moved j o st ls ms same inc more h = record {
  first = h.first;
  inc = h.inc ∙ sym inc;
  count = h.count ∙ ap length (sym same);
  turns = λ x. h.turns x ∙ ap (bound_last x None) (sym same);
  lined = naming_map (lined_in st ls) (lined_in st ms) (λ x b s i. ⊤) (λ x b s i. ⊤) (λ x b s k. (more x b s k.0, k.1 ∙ sym inc))
      (λ x b s i k. k) o h.lined;
}

given_moved : (st : Start) (ls ms : List Line) → made ms ≡ made ls → incarnation st ms 1 ≡ incarnation st ls 1 →
    ((x : ℕ) (b : Binding) (s : ℕ) → IsLined ms x b s → IsLined ls x b s) → bindings_made ls ≤ bindings_made ms → IsGiven st ls →
    IsGiven st ms
given_moved st ls ms same inc fewer_lines most g = record {
  older = λ x b s h. subst (λ i. IsBefore i (length (made ms)) b) (sym inc)
      (subst (λ z. IsBefore (incarnation st ls 1) (length z) b) (sym same) (g.older x b s (fewer_lines x b s h)));
  small = λ x b s h. at_most b.count (g.small x b s (fewer_lines x b s h));
  some = λ x b s h. g.some x b s (fewer_lines x b s h);
  one = λ x y b s t h k. g.one x y b s t (fewer_lines x b s h) (fewer_lines y b t k);
  long = subst (λ z. length z ≤ bindings_made ms) (sym same) (at_most (length (made ls)) g.long);
}
  where
    at_most : (n : ℕ) → n ≤ bindings_made ls → n ≤ bindings_made ms
    at_most n low = omega (arith, low, most)

-- a line that is no new binding
pub no_bound : (ls : List Line) (e : ℕ) (c : Body) → bound_by c ≡ 0 → (x : ℕ) (b : Binding) (s : ℕ) →
    IsLined (ls ++ numbered e (c ∷ [])) x b s →
    IsLined ls x b s
no_bound ls e c is x b s h = by (lined_parts ls e c x b s h)
  where
    one_none : ◌≡◌ {A = ℕ} 0 1 → ⊥
    one_none same = omega (arith, same)

    by : IsLined ls x b s ⊎ (c ≡ body.Bound x b s) → IsLined ls x b s
    by (inl before) = before
    by (inr same) = absurd (one_none (sym is ∙ ap bound_by same))

pub counted_keeps : (j : ℕ) (t : Parts) (st : Start) (ls : List Line) (e : ℕ) (b : Body) → tells b ≡ false → HasNames j t st ls →
    HasNames j t st (ls ++ numbered e (b ∷ []))
counted_keeps j t st ls e b is h o at = counted_moved j o st ls (ls ++ numbered e (b ∷ [])) (made_still ls e b is)
    (inc_still st 1 e ls b is)
    (λ x c s k. lined_more ls (numbered e (b ∷ [])) x c s k) (h o at)

pub given_stays : (st : Start) (ls : List Line) (e : ℕ) (b : Body) → tells b ≡ false → IsGiven st ls →
    IsGiven st (ls ++ numbered e (b ∷ []))
given_stays st ls e b is g = given_moved st ls (ls ++ numbered e (b ∷ [])) (made_still ls e b is) (inc_still st 1 e ls b is)
    (lined_still ls e b is)
    (fewer ls (numbered e (b ∷ []))) g

-- a copy becomes active
counted_active : (j : ℕ) (t : Parts) (st : Start) (ls : List Line) (e n x : ℕ) (b : Binding) → HasNames j t st ls →
    HasNames j t st (ls ++ numbered e (body.Active n x b ∷ []))
counted_active j t st ls e n x b h o at = counted_moved j o st ls (ls ++ numbered e (body.Active n x b ∷ [])) (made_active ls e n x b)
    (inc_with st 1 e ls (body.Active n x b)) (λ y c s k. lined_more ls (numbered e (body.Active n x b ∷ [])) y c s k) (h o at)

given_active : (st : Start) (ls : List Line) (e n x : ℕ) (b : Binding) → IsGiven st ls →
    IsGiven st (ls ++ numbered e (body.Active n x b ∷ []))
given_active st ls e n x b g = given_moved st ls (ls ++ numbered e (body.Active n x b ∷ [])) (made_active ls e n x b)
    (inc_with st 1 e ls (body.Active n x b)) (no_bound ls e (body.Active n x b) refl) (fewer ls (numbered e (body.Active n x b ∷ []))) g

-- another node starts
inc_off : (st : Start) (ls : List Line) (e n i : ℕ) → (n == 1) ≡ false →
    incarnation st (ls ++ numbered e (body.Up n i ∷ [])) 1 ≡ incarnation st ls 1
inc_off st ls e n i off = inc_with st 1 e ls (body.Up n i) ∙ (λ z. cond (off z) i (incarnation st ls 1))

pub counted_off : (j k : ℕ) → (j == k) ≡ false → (t : Parts) (st : Start) (ls : List Line) (e : ℕ) (b : Body) → is_own k b ≡ true →
    HasNames j t st ls → HasNames j t st (ls ++ numbered e (b ∷ []))
counted_off j k off t st ls e (body.Bound x b s) own h o at =
    let r = h o at in
    let no_way : true ≡ false = sym own ∙ (λ i. k == sym r.first i) ∙ turned j k off in absurd (cc no_way)
  where
    turned : (m n : ℕ) → (m == n) ≡ false → (n == m) ≡ false
    turned m n is = grind (arith, nat_tests, is)
counted_off j k off t st ls e (body.Active n x b) own h o at = counted_active j t st ls e n x b h o at
counted_off j k off t st ls e (body.Up n i) own h o at =
    let r = h o at in
    let other : (n == 1) ≡ false = (λ z. eqb-true n k own z == sym r.first z) ∙ turned j k off in
    counted_moved j o st ls (ls ++ numbered e (body.Up n i ∷ [])) (made_off ls e n i other) (inc_off st ls e n i other)
    (λ x c s q. lined_more ls (numbered e (body.Up n i ∷ [])) x c s q) r
  where
    turned : (m n : ℕ) → (m == n) ≡ false → (n == m) ≡ false
    turned m n is = grind (arith, nat_tests, is)
counted_off j k off t st ls e b own h o at = counted_keeps j t st ls e b refl h o at

-- ---- a new binding

bound_with : (x : ℕ) (found : Option ℕ) (ms : List (Placed copies.Naming)) (m : Placed copies.Naming) → bound_last x found (ms ++ m ∷ []) ≡
    cond ((let n = m.it in n.x) == x) (Some (let n = m.it in n.server)) (bound_last x found ms)
bound_with x found [] m = refl
bound_with x found (n ∷ ms) m = bound_with x (cond ((let z = n.it in z.x) == x) (Some (let z = n.it in z.server)) found) ms m

module _ (st : Start) (ls : List Line) (e x s : ℕ) where
  abbrev Next : Binding
  Next = record { inc = incarnation st ls 1; count = length (made ls) + 1 }

  abbrev after : List Line
  after = ls ++ numbered e (body.Bound x Next s ∷ [])

  longer : length (made after) ≡ length (made ls) + 1
  longer = ap length (made_with ls e (body.Bound x Next s)) ∙ length-append (made ls) _

  weighs : bindings_made after ≡ bindings_made ls + 1
  weighs = lines_both ls (numbered e (body.Bound x Next s ∷ [])) ∙ one (bindings_made ls)
    where
      one : (n : ℕ) → n + (1 + 0) ≡ n + 1
      one n = omega arith

  same_inc : incarnation st after 1 ≡ incarnation st ls 1
  same_inc = inc_with st 1 e ls (body.Bound x Next s)

  new_given : IsGiven st ls → IsGiven st after
  new_given g = record {
    older = λ y b t h. subst (λ i. IsBefore i (length (made after)) b) (sym same_inc)
        (subst (λ n. IsBefore (incarnation st ls 1) n b) (sym longer) (old y b t (lined_parts ls e (body.Bound x Next s) y b t h)));
    small = λ y b t h. subst (λ n. b.count ≤ n) (sym weighs) (few y b t (lined_parts ls e (body.Bound x Next s) y b t h));
    some = λ y b t h. any y b t (lined_parts ls e (body.Bound x Next s) y b t h);
    one = λ y z b t u h k. same y z b t u (lined_parts ls e (body.Bound x Next s) y b t h) (lined_parts ls e (body.Bound x Next s) z b u k);
    long = subst (λ n. n ≤ bindings_made after) (sym longer) (subst (λ n. length (made ls) + 1 ≤ n) (sym weighs) (both (length (made ls))
        (bindings_made ls) g.long));
  }
    where
      both : (m n : ℕ) → m ≤ n → m + 1 ≤ n + 1
      both m n le = omega (arith, le)

      up_one : (m n : ℕ) → m ≤ n → m ≤ n + 1
      up_one m n le = omega (arith, le)

      binding_in : Body → Binding
      binding_in (body.Bound y b t) = b
      binding_in b = Next

      object_in : Body → ℕ
      object_in (body.Bound y b t) = y
      object_in b = x

      server_in : Body → ℕ
      server_in (body.Bound y b t) = t
      server_in b = s

      old : (y : ℕ) (b : Binding) (t : ℕ) → IsLined ls y b t ⊎ (body.Bound x Next s ≡ body.Bound y b t) →
          IsBefore (incarnation st ls 1) (length (made ls) + 1) b
      old y b t (inl before) = by (g.older y b t before)
        where
          by : IsBefore (incarnation st ls 1) (length (made ls)) b → IsBefore (incarnation st ls 1) (length (made ls) + 1) b
          by (inl less) = inl less
          by (inr same) = inr (same.0, up_one b.count (length (made ls)) same.1)
      old y b t (inr same) = subst (IsBefore (incarnation st ls 1) (length (made ls) + 1)) (ap binding_in same)
          (inr (refl, least (length (made ls) + 1)))
        where
          least : (n : ℕ) → n ≤ n
          least n = omega arith

      few : (y : ℕ) (b : Binding) (t : ℕ) → IsLined ls y b t ⊎ (body.Bound x Next s ≡ body.Bound y b t) → b.count ≤ bindings_made ls + 1
      few y b t (inl before) = up_one b.count (bindings_made ls) (g.small y b t before)
      few y b t (inr same) = subst (λ (c : Binding). c.count ≤ bindings_made ls + 1) (ap binding_in same)
          (both (length (made ls)) (bindings_made ls) g.long)

      any : (y : ℕ) (b : Binding) (t : ℕ) → IsLined ls y b t ⊎ (body.Bound x Next s ≡ body.Bound y b t) → 1 ≤ b.count
      any y b t (inl before) = g.some y b t before
      any y b t (inr same) = subst (λ (c : Binding). 1 ≤ c.count) (ap binding_in same) (more (length (made ls)))
        where
          more : (n : ℕ) → 1 ≤ n + 1
          more n = omega arith

      never : (y : ℕ) (b : Binding) (t : ℕ) → IsLined ls y b t → Next ≡ b → ⊥
      never y b t before same = by (g.older y b t before)
        where
          inc_is : incarnation st ls 1 ≡ b.inc
          inc_is = ap (λ (c : Binding). c.inc) same

          count_is : length (made ls) + 1 ≡ b.count
          count_is = ap (λ (c : Binding). c.count) same

          by : IsBefore (incarnation st ls 1) (length (made ls)) b → ⊥
          by (inl less) = omega (arith, less, inc_is)
          by (inr most) = let low = most.1 in omega (arith, low, count_is)

      same : (y z : ℕ) (b : Binding) (t u : ℕ) → IsLined ls y b t ⊎ (body.Bound x Next s ≡ body.Bound y b t) →
          IsLined ls z b u ⊎ (body.Bound x Next s ≡ body.Bound z b u) → (y ≡ z) × (t ≡ u)
      same y z b t u (inl h) (inl k) = g.one y z b t u h k
      same y z b t u (inl h) (inr k) = absurd (never y b t h (ap binding_in k))
      same y z b t u (inr h) (inl k) = absurd (never z b u k (ap binding_in h))
      same y z b t u (inr h) (inr k) = (sym (ap object_in h) ∙ ap object_in k, sym (ap server_in h) ∙ ap server_in k)

-- ---- effects of no new binding, and of no start

abbrev pub is_unbound : Body → Bool
is_unbound (body.Bound x b s) = false
is_unbound b = true

abbrev pub is_free : Body → Bool
is_free b = is_still b && is_unbound b

pub free_counted : (j : ℕ) (t : Parts) (st : Start) (ls : List Line) (e : ℕ) (b : Body) → is_free b ≡ true → HasNames j t st ls →
    HasNames j t st (ls ++ numbered e (b ∷ []))
free_counted j t st ls e (body.Bound x b s) is h = absurd (cc is)
free_counted j t st ls e (body.Up n i) is h = absurd (cc is)
free_counted j t st ls e (body.Active n x b) is h = counted_active j t st ls e n x b h
free_counted j t st ls e b is h = counted_keeps j t st ls e b refl h

free_given : (st : Start) (ls : List Line) (e : ℕ) (b : Body) → is_free b ≡ true → IsGiven st ls → IsGiven st (ls ++ numbered e (b ∷ []))
free_given st ls e (body.Bound x b s) is g = absurd (cc is)
free_given st ls e (body.Up n i) is g = absurd (cc is)
free_given st ls e (body.Active n x b) is g = given_active st ls e n x b g
free_given st ls e b is g = given_stays st ls e b refl g

free_both : (es : List Effect) → Still es → saying.All is_unbound es → saying.All is_free es
free_both [] still all = refl
free_both (Say b ∷ es) still all =
    let p = and_parts (is_still b) (list_all says_still es) still in
    let q = and_parts (is_unbound b) (list_all (saying.says is_unbound) es) all in
    λ i. (p.0 i && q.0 i) && free_both es p.1 q.1 i
free_both (Send to m ∷ es) still all = free_both es still all
free_both (Do w ∷ es) still all = free_both es still all

pub light_unbound : (n : ℕ) (es : List Effect) → weigh n es ≤ 0 → saying.All is_unbound es
light_unbound n [] less = refl
light_unbound n (Say b ∷ es) less =
    let z = parts (bound_by b) (weigh n es) less in λ i. one b z.0 i && light_unbound n es z.1 i
  where
    parts : (a c : ℕ) → a + c ≤ 0 → (a ≡ 0) × (c ≤ 0)
    parts a c le = (omega (arith, le), omega (arith, le))

    one : (b : Body) → bound_by b ≡ 0 → is_unbound b ≡ true
    one (body.Bound x c s) is = let no_way : 1 ≡ 0 = is in absurd (omega (arith, no_way))
    one b is = refl
light_unbound n (Send to m ∷ es) less = light_unbound n es (rest (cond (to == n) (binds m) 0) (weigh n es) less)
  where
    rest : (a c : ℕ) → a + c ≤ 0 → c ≤ 0
    rest a c le = omega (arith, le)
light_unbound n (Do w ∷ es) less = light_unbound n es (rest (weigh n es) less)
  where
    rest : (c : ℕ) → 0 + c ≤ 0 → c ≤ 0
    rest c le = omega (arith, le)

abbrev pub Names : Seen → Type 0
Names = nodes.HoldsSo HasNames IsGiven counted_keeps counted_off given_stays

abbrev Due : ℕ → Parts → Start → ℕ → List Effect → List Line → Type 0
Due = nodes.Due HasNames IsGiven counted_keeps counted_off given_stays

free_due : (k : ℕ) (v : Parts) (st : Start) (e : ℕ) (es : List Effect) → saying.All is_free es → (ls : List Line) → IsGiven st ls →
    HasNames k v st ls → Due k v st e es ls
free_due k v st e [] all ls g h = h
free_due k v st e (Do w ∷ es) all ls g h = free_due k v st e es all ls g h
free_due k v st e (Say b ∷ es) all ls g h =
    let q = and_parts (is_free b) (list_all (saying.says is_free) es) all in
    let after = free_given st ls e b q.0 g in
    (after, free_due k v st e es q.1 (ls ++ numbered e (b ∷ [])) after (free_counted k v st ls e b q.0 h))
free_due k v st e (Send to m ∷ es) all ls g h = λ more quiet.
    let r = lines more quiet ls g h in free_due k v st e es all (ls ++ numbered e more) r.0 r.1
  where
    lines : (bs : List Body) → AreQuiet bs → (ms : List Line) → IsGiven st ms → HasNames k v st ms →
        IsGiven st (ms ++ numbered e bs) × HasNames k v st (ms ++ numbered e bs)
    lines [] are ms g h = (subst (IsGiven st) (sym (append-nil ms)) g, subst (HasNames k v st) (sym (append-nil ms)) h)
    lines (b ∷ bs) are ms g h =
        let q = and_parts (is_quiet_line b) (list_all is_quiet_line bs) are in
        let still = Rattle.arj_law_cause.proofs.bindings.Lines.quiet_tells b q.0 in
        let r = lines bs q.1 (ms ++ numbered e (b ∷ [])) (given_stays st ms e b still g) (counted_keeps k v st ms e b still h) in (
          subst (IsGiven st) (append_assoc ms (numbered e (b ∷ [])) (numbered e bs)) r.0,
          subst (HasNames k v st) (append_assoc ms (numbered e (b ∷ [])) (numbered e bs)) r.1,
        )

-- ---- a Bind

module _ (k e : ℕ) (t : Parts) (st : Start) (fs : List Effect) (plain : ArePlain fs) where
  -- what it leaves is known behind its lines
  abbrev BindDue : Served Naming BoundReply → Type 0
  BindDue r = (ls : List Line) → IsGiven st ls → HasNames k t st ls → Due k (with_naming t r.part) st e (r.outs ++ fs) ls

  same_due : (n : Naming) → t.naming ≡ Some n → BindDue (void n)
  same_due n at ls g h = nodes.plain_due HasNames IsGiven counted_keeps counted_off given_stays k (with_naming t n) st e fs plain ls g
      (λ o is. subst (λ z. IsCounted k z st ls) (some_is is) (h n at))

  -- the object is put back
  module _ (n : Naming) (at : t.naming ≡ Some n) (x : ℕ) (q : Named) (there : at_number x n.objects ≡ Some q) where
    abbrev put_back : Named → ℕ → Naming
    put_back v count = record n { count = count; objects = put_number x v n.objects }

    turns_of : (v : Named) (c : ℕ) (y : ℕ) → turn_at y (put_back v c) ≡ cond (is_eq (nat_cmp y x)) v.turn (turn_at y n)
    turns_of v c y = by (is_eq (nat_cmp y x)) refl
      where
        same_key : (i m : ℕ) → is_eq (nat_cmp i m) ≡ true → m ≡ i
        same_key i m is = grind (arith, is)

        by : (b : Bool) → is_eq (nat_cmp y x) ≡ b → turn_in (at_number y (put_number x v n.objects)) ≡ cond b v.turn (turn_at y n)
        by true is = ap turn_in (ap (λ z. at_number z (put_number x v n.objects)) (sym (same_key y x is)) ∙ put_same x v n.objects)
        by false is = ap turn_in (put_other x y v n.objects is)

    light_due : (p : Path) (c : Counted) (r : Served Counted BoundReply) → c ≡ record { named = q; count = n.count } → IsLight x p c r →
        (ls : List Line) → IsGiven st ls → HasNames k t st ls →
        Due k (with_naming t (put_back (let v = r.part in v.named) (let v = r.part in v.count))) st e (r.outs ++ fs) ls
    light_due p c r same light ls g h =
        let v : Named = (let z = r.part in z.named) in
        let old = h n at in
        let turn : v.turn ≡ q.turn = light.turn ∙ ap (λ (z : Counted). (let o = z.named in o.turn)) same in
        nodes.plain_due HasNames IsGiven counted_keeps counted_off given_stays k
        (with_naming t (put_back v (let z = r.part in z.count))) st e (r.outs ++ fs)
        (Words.all_both (saying.says is_plain) r.outs fs light.plain plain) ls g
        (λ o is. subst (λ z. IsCounted k z st ls) (some_is is) (record {
          first = old.first;
          inc = old.inc;
          count = light.count ∙ ap (λ (z : Counted). z.count) same ∙ old.count;
          turns = λ y. turns_of v (let z = r.part in z.count) y ∙ kept v turn y (is_eq (nat_cmp y x)) refl ∙ old.turns y;
          lined = keyed_put (IsNamedSo (lined_in st ls) (λ x b s i. ⊤)) x v n.objects
              (named_same (lined_in st ls) (λ x b s i. ⊤) x q v (light.live ∙ ap (λ (z : Counted). (let o = z.named in o.live)) same)
              (light.made ∙ ap (λ (z : Counted). (let o = z.named in o.made)) same)
              (keyed_found (IsNamedSo (lined_in st ls) (λ x b s i. ⊤)) x n.objects q old.lined there)) old.lined;
        }))
      where
        same_key : (i m : ℕ) → is_eq (nat_cmp i m) ≡ true → m ≡ i
        same_key i m is = grind (arith, is)

        kept : (v : Named) → v.turn ≡ q.turn → (y : ℕ) (b : Bool) → is_eq (nat_cmp y x) ≡ b → cond b v.turn (turn_at y n) ≡ turn_at y n
        kept v turn y true is = turn ∙ ap turn_in (sym there) ∙ ap (λ z. turn_at z n) (same_key y x is)
        kept v turn y false is = refl

    new_due : (p : Path) (d : Pair) → (ls : List Line) → IsGiven st ls → HasNames k t st ls →
        (let r = bound_new n.inc x p (listed_entry x d) (record { named = q; count = n.count })
        (next_server q.turn (listed_entry x d).servers) in
        Due k (with_naming t (put_back (let v = r.part in v.named) (let v = r.part in v.count))) st e (r.outs ++ fs) ls)
    new_due p d ls g h = subst (λ es. Due k v st e es ls) (sym (append_assoc (lock_lines x p mode.Write q) (Say line ∷ []) fs))
        (nodes.front_due HasNames IsGiven counted_keeps counted_off given_stays k v st e (HasNames k t st)
        (λ ms b is z. counted_keeps k t st ms e b is z) (Say line ∷ fs) rest (lock_lines x p mode.Write q) (locks_plain x p mode.Write q)
        ls g h)
      where
        s : ℕ
        s = next_server q.turn (listed_entry x d).servers

        b : Binding
        b = record { inc = n.inc; count = n.count + 1 }

        line : Body
        line = body.Bound x b s

        o : Named
        o = record (locked x p mode.Write q) {
          made = Words.put_uid (top_of p) (record { binding = b; server = s; recorded = false }) q.made;
          turn = Some s;
        }

        v : Parts
        v = with_naming t (put_back o (n.count + 1))

        rest : (ms : List Line) → IsGiven st ms → HasNames k t st ms → Due k v st e (Say line ∷ fs) ms
        rest ms gs hs = (
          now,
          nodes.plain_due HasNames IsGiven counted_keeps counted_off given_stays k v st e fs plain (ms ++ numbered e (line ∷ [])) now
              (λ z is. subst (λ y. IsCounted k y st (ms ++ numbered e (line ∷ []))) (some_is is) counted),
        )
          where
            old : IsCounted k n st ms
            old = hs n at

            next : line ≡ body.Bound x (Next st ms e x s) s
            next = λ i. body.Bound x (record { inc = old.inc i; count = old.count i + 1 }) s

            now : IsGiven st (ms ++ numbered e (line ∷ []))
            now = subst (λ z. IsGiven st (ms ++ numbered e (z ∷ []))) (sym next) (new_given st ms e x s gs)

            same_key : (i m : ℕ) → is_eq (nat_cmp i m) ≡ true → m ≡ i
            same_key i m is = grind (arith, is)

            by_test : (y : ℕ) (c : Bool) → is_eq (nat_cmp y x) ≡ c → (x == y) ≡ c
            by_test y true is = eq-eqb x y (same_key y x is)
            by_test y false is = apart y x is
              where
                apart : (i m : ℕ) → is_eq (nat_cmp i m) ≡ false → (m == i) ≡ false
                apart i m off = grind (arith, nat_tests, off)

            lined_now : lined_in st (ms ++ numbered e (line ∷ [])) x b s
            lined_now = (lined_last ms e x b s, old.inc ∙ sym (inc_with st 1 e ms line))

            older_lined : IsNamingSo (lined_in st (ms ++ numbered e (line ∷ []))) (λ x b s i. ⊤) n
            older_lined = naming_map (lined_in st ms) (lined_in st (ms ++ numbered e (line ∷ []))) (λ x b s i. ⊤) (λ x b s i. ⊤)
                (λ y c u h. (lined_more ms (numbered e (line ∷ [])) y c u h.0, h.1 ∙ sym (inc_with st 1 e ms line))) (λ y c u i h. h)
                n old.lined

            object_now : IsNamedSo (lined_in st (ms ++ numbered e (line ∷ []))) (λ x b s i. ⊤) x o
            object_now =
                let f = keyed_found (IsNamedSo (lined_in st (ms ++ numbered e (line ∷ []))) (λ x b s i. ⊤))
                x n.objects q older_lined there in
                record {
                  live = f.live;
                  made = made_put (lined_in st (ms ++ numbered e (line ∷ []))) (λ x b s i. ⊤) x (top_of p)
                      (record { binding = b; server = s; recorded = false }) q.made lined_now f.made;
                }

            counted : IsCounted k (put_back o (n.count + 1)) st (ms ++ numbered e (line ∷ []))
            counted = record {
              first = old.first;
              inc = old.inc ∙ sym (inc_with st 1 e ms line);
              count = (λ i. old.count i + 1) ∙ sym (length-append (made ms) _) ∙ ap length (sym (made_with ms e line));
              turns = λ y. turns_of o (n.count + 1) y ∙ (λ i. cond (is_eq (nat_cmp y x)) (Some s) (old.turns y i))
                  ∙ (λ i. cond (sym (by_test y (is_eq (nat_cmp y x)) refl) i) (Some s) (bound_last y None (made ms)))
                  ∙ sym (bound_with y None (made ms) _) ∙ ap (bound_last y None) (sym (made_with ms e line));
              lined = keyed_put (IsNamedSo (lined_in st (ms ++ numbered e (line ∷ []))) (λ x b s i. ⊤))
                  x o n.objects object_now older_lined;
            }

  bind_due : (p : Path) (x : ℕ) (include : Bool) (avoid : Binding) (d : Pair) (n : Naming) → t.naming ≡ Some n →
      BindDue (naming.bind p x include avoid d n)
  bind_due p x include avoid d n at = by (is_over p n)
    where
      found : (o : Option Named) → at_number x n.objects ≡ o →
          BindDue (on_counted x (bind_named n.inc x p include avoid (listed_entry x d)) n o)
      found None there = same_due n at
      found (Some q) there = ⊎_elim {C = BindDue (on_counted x (bind_named n.inc x p include avoid (listed_entry x d)) n (Some q))}
          (λ light ls g h. light_due n at x q there p (record { named = q; count = n.count })
          (bind_named n.inc x p include avoid (listed_entry x d) (record { named = q; count = n.count })) refl light ls g h)
          (λ same ls g h. subst (λ (r : Served Counted BoundReply).
          Due k (with_naming t (put_back n at x q there (let v = r.part in v.named) (let v = r.part in v.count))) st e (r.outs ++ fs) ls)
          (sym same)
          (new_due n at x q there p d ls g h))
          (bind_shape n.inc x p (listed_entry x d) (record { named = q; count = n.count }) include avoid)

      by : (b : Bool) → BindDue (cond {A = Served Naming BoundReply} b (void n)
          (on_counted x (bind_named n.inc x p include avoid (listed_entry x d)) n (at_number x n.objects)))
      by true = same_due n at
      by false = found (at_number x n.objects) refl

-- ---- a message

-- one that is no Bind makes no binding
pub message_free : (k : ℕ) (d : Disk) (t v : Parts) (from : ℕ) (m : Message) (outs : List Effect) → is_meant t m ≡ true →
    handle k d t from m ≡ Took v outs → (o : Option (Head × Ask)) → asks m ≡ o → bind_by o ≡ 0 → saying.All is_free outs
message_free k d t v from m outs meant is o at none = free_both outs still (light_unbound k outs light)
  where
    taken_is : taken k d t from m ≡ Took v outs
    taken_is = (λ i. cond (meant i) (handle k d t from m) (Void [])) ∙ is

    still : Still outs
    still = subst (λ (h : Handled). Still (Rattle.arj_law_parts.proofs.steps.Still.outs_of h)) taken_is (taken_good k d t from m)

    light : weigh k outs ≤ 0
    light = subst (λ n. weigh k outs ≤ n) (ap bind_by at ∙ none)
        (subst (λ z. weigh k (handled.outs_of z) ≤ binds m) taken_is (handled.taken_weigh k d t from m))

-- nor does a node that starts
pub restart_unbound : (hd : Header) (k : ℕ) (d : Disk) → saying.All is_unbound (restart_outs hd k (d.inc + 1) d)
restart_unbound hd k d = saying.restart_says is_unbound hd k (d.inc + 1) d coord_unbound (λ is u o how. refl) (λ u. refl) refl
  where
    coord_unbound : (b : Body) → is_coord_line b ≡ true → is_unbound b ≡ true
    coord_unbound (body.Bound x c s) is = absurd (cc is)
    coord_unbound b is = refl

module _ (e k : ℕ) (d : Disk) (t v : Parts) (from : ℕ) (m : Message) (outs : List Effect) (st : Start) (ls : List Line)
    (given : IsGiven st ls)
    (names : HasNames k t st ls) (meant : is_meant t m ≡ true) (is : handle k d t from m ≡ Took v outs) where
  others : (o : Option (Head × Ask)) → asks m ≡ o → is_bind o ≡ false → bind_by o ≡ 0 → Due k v st e outs ls
  others o at off none = free_due k v st e outs (message_free k d t v from m outs meant is o at none) ls given left
    where
      left : HasNames k v st ls
      left p vp =
          let r = subst (StaysBy (lined_in st ls) k d t from) (sym (ap (handle_ask k d t from m) at) ∙ is)
          (message_stays (lined_in st ls) k d t from m o off) p vp in
          let old = names r.0 r.1 in
          let alike = r.2.0 in record {
            first = old.first;
            inc = alike.inc ∙ old.inc;
            count = alike.count ∙ old.count;
            turns = λ x. alike.turns x ∙ old.turns x;
            lined = r.2.1 old.lined;
          }

  asked : (o : Option (Head × Ask)) → asks m ≡ o → Due k v st e outs ls
  asked (Some (h, ask.Bind x include avoid)) at = named t.naming refl (sym (ap (handle_ask k d t from m) at) ∙ is)
    where
      named : (o : Option Naming) → t.naming ≡ o →
          if_naming (λ n. served from h (with_naming t) Reply.Bound (naming.bind h.path x include avoid d.names n)) o ≡ Took v outs →
          Due k v st e outs ls
      named None there same = let no_way : Void [] ≡ Took v outs = same in absurd (cc no_way)
      named (Some n) there same = by (naming.bind h.path x include avoid d.names n).reply same
        where
          by : (r : Option BoundReply) → sends_answer from h (with_naming t (naming.bind h.path x include avoid d.names n).part)
              (naming.bind h.path x include avoid d.names n).outs (option_map Reply.Bound r) ≡ Took v outs → Due k v st e outs ls
          by None same = let no_way : Void [] ≡ Took v outs = same in absurd (cc no_way)
          by (Some r) same = subst (λ z. DueBy z) same
              (bind_due k e t st (Send from (response (asked_by h) (Reply.Bound r)) ∷ [])
              refl h.path x include avoid d.names n there ls given names)
            where
              DueBy : Handled → Type 0
              DueBy (Void es) = ⊤
              DueBy (Took w es) = Due k w st e es ls
  asked None at = others None at refl refl
  asked (Some (h, ask.Load x)) at = others (Some (h, ask.Load x)) at refl refl
  asked (Some (h, ask.Activate b s)) at = others (Some (h, ask.Activate b s)) at refl refl
  asked (Some (h, ask.Record x b i g)) at = others (Some (h, ask.Record x b i g)) at refl refl
  asked (Some (h, ask.Invoke x b i es o)) at = others (Some (h, ask.Invoke x b i es o)) at refl refl
  asked (Some (h, ask.Vote i ties es)) at = others (Some (h, ask.Vote i ties es)) at refl refl
  asked (Some (h, ask.Prepare states)) at = others (Some (h, ask.Prepare states)) at refl refl
  asked (Some (h, ask.Confirm g x i)) at = others (Some (h, ask.Confirm g x i)) at refl refl

  pub owns : saying.All (is_own k) outs
  owns = ⊎_elim {C = saying.All (is_own k) outs} (λ own. own_all k outs (subst (λ z. ArePlain (saying.outs_of z)) is (coord_or own)))
      (λ all. subst (λ z. saying.All (is_own k) (saying.outs_of z)) is all)
      (saying.handle_says (is_own k) k ((k == 1) ≡ true) by_server by_naming (λ u r. refl) (λ u r e. refl) d t from m
      (λ o there. let h = names o there in eq-eqb k 1 h.first))
    where
      coord_or : Words.AreAll Words.is_coord_effect (saying.outs_of (handle k d t from m)) → ArePlain (saying.outs_of (handle k d t from m))
      coord_or own = coord_all (saying.outs_of (handle k d t from m)) own

      by_server : (b : Body) → is_server_line k b ≡ true → is_own k b ≡ true
      by_server (body.Bound x b s) is = absurd (cc is)
      by_server (body.Active n x b) is = is
      by_server (body.Up n i) is = absurd (cc is)
      by_server b is = refl

      by_naming : (k == 1) ≡ true → (b : Body) → is_naming_line b ≡ true → is_own k b ≡ true
      by_naming one (body.Bound x b s) is = one
      by_naming one (body.Active n x b) is = absurd (cc is)
      by_naming one (body.Up n i) is = absurd (cc is)
      by_naming one b is = refl

-- ---- a restart

recovered_turn : (x : ℕ) (d : Pair) (held : List (Uid × ObjectState)) → turn_in (at_number x (map (named_back d) held)) ≡ None
recovered_turn x d [] = refl
recovered_turn x d (e ∷ es) = by (is_eq (nat_cmp x (let u = e.0 in u.num))) (recovered_turn x d es)
  where
    by : (b : Bool) → turn_in (at_number x (map (named_back d) es)) ≡ None →
        turn_in (cond b (Some (let z = named_back d e in z.1)) (at_number x (map (named_back d) es))) ≡ None
    by true ih = refl
    by false ih = ih

-- a node that starts has made no binding
new_names : (j i : ℕ) (d : Disk) (st : Start) (ls : List Line) → (j ≡ 1 → (made ls ≡ []) × (i ≡ incarnation st ls 1)) →
    HasNames j (parts_in j i d) st ls
new_names j i d st ls new o = by (j == 1) refl
  where
    by : (b : Bool) → (j == 1) ≡ b → cond b (Some (recovered_naming i d.names)) None ≡ Some o → IsCounted j o st ls
    by false off is = none_is is
    by true on is =
        let n = new (eqb-true j 1 on) in
        subst (λ z. IsCounted j z st ls) (some_is is) (record {
          first = eqb-true j 1 on;
          inc = n.1;
          count = ap length (sym n.0);
          turns = λ x. recovered_turn x d.names (let p = d.names in p.held) ∙ ap (bound_last x None) (sym n.0);
          lined = recovered_so (lined_in st ls) (λ x b s i. ⊤) i d.names;
        })

restart_due : (hd : Header) (e k : ℕ) (d : Disk) (M : Seen) → KnowsNext (down k d M) → IsGiven M.start M.lines →
    Due k (parts_in k (d.inc + 1) d) M.start e (restart_outs hd k (d.inc + 1) d) M.lines
restart_due hd e k d M known g = (
  up_given,
  free_due k (parts_in k (d.inc + 1) d) M.start e rest (free_both rest rest_still rest_unbound) after up_given
      (new_names k (d.inc + 1) d M.start after fresh),
)
  where
    b : Body
    b = body.Up k (d.inc + 1)

    after : List Line
    after = M.lines ++ numbered e (b ∷ [])

    rest : List Effect
    rest = halts.behind hd e k d M known.0

    rest_still : Still rest
    rest_still = halts.behind_still hd e k d M known.0

    rest_unbound : saying.All is_unbound rest
    rest_unbound = restart_unbound hd k d

    low : incarnation M.start M.lines k ≤ d.inc
    low = (known.1 k (record { number = k; disk = d; live = None })
        (λ i. cond (same_number k i) (Some (record { number = k; disk = d; live = None })) (M.nodes k))).0

    at_one : (k == 1) ≡ true → (made after ≡ []) × (incarnation M.start after 1 ≡ d.inc + 1)
    at_one on = (
      made_with M.lines e b ∙ (λ i. cond (on i) [] (made M.lines ++ [])),
      inc_with M.start 1 e M.lines b ∙ (λ i. cond (on i) (d.inc + 1) (incarnation M.start M.lines 1)),
    )

    fresh : k ≡ 1 → (made after ≡ []) × (d.inc + 1 ≡ incarnation M.start after 1)
    fresh one = let r = at_one (eq-eqb k 1 one) in (r.0, sym r.1)

    up_given : IsGiven M.start after
    up_given = by (k == 1) refl
      where
        by : (c : Bool) → (k == 1) ≡ c → IsGiven M.start after
        by false off = given_moved M.start M.lines after (made_off M.lines e k (d.inc + 1) off)
            (inc_off M.start M.lines e k (d.inc + 1) off)
            (no_bound M.lines e b refl) (fewer M.lines (numbered e (b ∷ []))) g
        by true on =
            let r = at_one on in
            let below : incarnation M.start M.lines 1 ≤ d.inc = subst (λ j. incarnation M.start M.lines j ≤ d.inc) (eqb-true k 1 on) low in
            record {
              older = λ x c s h. subst (λ i. IsBefore i (length (made after)) c) (sym r.1)
                  (inl (under c below (g.older x c s (no_bound M.lines e b refl x c s h))));
              small = λ x c s h. at_most c.count (g.small x c s (no_bound M.lines e b refl x c s h));
              some = λ x c s h. g.some x c s (no_bound M.lines e b refl x c s h);
              one = λ x y c s t h u. g.one x y c s t (no_bound M.lines e b refl x c s h) (no_bound M.lines e b refl y c t u);
              long = subst (λ z. length z ≤ bindings_made after) (sym r.0) (none (bindings_made after));
            }
          where
            under : (c : Binding) → incarnation M.start M.lines 1 ≤ d.inc →
                IsBefore (incarnation M.start M.lines 1) (length (made M.lines)) c →
                c.inc < d.inc + 1
            under c le (inl less) = omega (arith, le, less)
            under c le (inr same) = let eq = same.0 in omega (arith, le, eq)

            at_most : (n : ℕ) → n ≤ bindings_made M.lines → n ≤ bindings_made after
            at_most n le = let more = fewer M.lines (numbered e (b ∷ [])) in omega (arith, le, more)

            none : (n : ℕ) → 0 ≤ n
            none n = omega arith

-- ---- in each run

first_names : (hd : Header) → IsAtStarts hd Names
first_names hd st formed = (
  record {
    older = λ x b s h. absurd h.1;
    small = λ x b s h. absurd h.1;
    some = λ x b s h. absurd h.1;
    one = λ x y b s t h k. absurd h.1;
    long = least 0;
  },
  λ j n t there live. subst (λ (z : Parts). HasNames j z st []) (first_up hd st j n t there live)
      (new_names j (st.incs j + 1) (Rattle.arj_law_runs.proofs.Terms.disk_by hd st j) st [] (λ one. (refl, λ i. st.incs (one i) + 1))),
)
  where
    least : (n : ℕ) → n ≤ n
    least n = omega arith

names_given : (hd : Header) → KeepsGiven hd KnowsNext Names
names_given hd = nodes.nodes_keep HasNames IsGiven counted_keeps counted_off given_stays hd KnowsNext (λ j t c st ls h o at. h o at)
    (λ e k d t v from m outs M known h there meant is.
    let own = h.1 k (record { number = k; disk = d; live = Some t }) t
    (λ i. cond (same_number k i) (Some (record { number = k; disk = d; live = Some t })) (M.nodes k)) refl in (
      owns e k d t v from m outs M.start M.lines h.0 own meant is,
      asked e k d t v from m outs M.start M.lines h.0 own meant is (asks m) refl,
    ))
    (λ e k d M known h. restart_due hd e k d M known h.0)
    (first_names hd)

-- nodes' incarnations are those of the journal, and so it is of naming
abbrev pub KnowsNames : Seen → Type 0
KnowsNames M = KnowsNext M × Names M

pub names_keep : (hd : Header) → Keeps hd KnowsNames
names_keep hd = kept_both hd KnowsNext Names (next_keep hd) (names_given hd)
