-- Logs that change: what of them fits the calls.
use Rattle.arj_law_lock.proofs.Terms
use Terms.{◌≡◌, ◌≢◌, ◌≤◌, ◌⊎◌, ℕ, List, [], ◌∷◌, Bool, true, false, inl, inr, refl, sym, ◌∙◌, ap, subst, arith, Act, Root, Sub, same, root}
use Terms.{top, is_action, In, Action, Entry, Call, State, Newest, newest, older, IsLast, Survives, map, filter, not, cond, handed}
use Terms.{held_value, value_over}
use Rattle.arj_law_lock.proofs.machine
use machine.{Claims.GoesOn, ValueLasts.newest_on}
use machine.Paths.{by_cases, differ, same_is, top_root, on_self, on_up, on_above}
use machine.ValueClaims.{Clean, Fine, Ok, Mine, IsWaiting, Matches, rest, both, more, less, NoneWaits, Logged, calm, bad, waiting}

-- Logs that change: what of them fits the calls.

pub in_map : (f : Entry → Entry) (e : Entry) (es : List Entry) → In e (map f es) → (d : Entry) × In d es × (e ≡ f d)
in_map f e [] i = absurd i
in_map f e (d ∷ es) (inl is) = (d, inl refl, is)
in_map f e (d ∷ es) (inr i) = let p = in_map f e es i in (p.0, inr p.1, p.2)

pub map_in : (f : Entry → Entry) (e : Entry) (es : List Entry) → In e es → In (f e) (map f es)
map_in f e (d ∷ es) (inl is) = inl (ap f is)
map_in f e (d ∷ es) (inr i) = inr (map_in f e es i)
map_in f e [] i = absurd i

pub in_filter : (p : Entry → Bool) (e : Entry) (es : List Entry) → In e (filter p es) → In e es × (p e ≡ true)
in_filter p e [] i = absurd i
in_filter p e (d ∷ es) i = by (in_filter p e es) (p d) refl i
  where
    by : (In e (filter p es) → In e es × (p e ≡ true)) → (b : Bool) → p d ≡ b → In e (cond b (d ∷ filter p es) (filter p es)) →
        In e (d ∷ es) × (p e ≡ true)
    by ih true q (inl is) = (inl is, ap p is ∙ q)
    by ih true q (inr j) = let r = ih j in (inr r.0, r.1)
    by ih false q j = let r = ih j in (inr r.0, r.1)

pub filter_in : (p : Entry → Bool) (e : Entry) (es : List Entry) → In e es → p e ≡ true → In e (filter p es)
filter_in p e [] i q = absurd i
filter_in p e (d ∷ es) i q = by (filter_in p e es) (p d) refl i
  where
    by : (In e es → p e ≡ true → In e (filter p es)) → (b : Bool) → p d ≡ b → In e (d ∷ es) → In e (cond b (d ∷ filter p es) (filter p es))
    by ih true r (inl is) = inl is
    by ih true r (inr j) = inr (ih j q)
    by ih false r (inl is) = differ q (ap p is ∙ r)
    by ih false r (inr j) = ih j q

pub not_true : (b : Bool) → not b ≡ true → b ≡ false
not_true true e = let never : false ≡ true = e in absurd (cc)
not_true false e = refl

pub true_not : (b : Bool) → b ≡ false → not b ≡ true
true_not b e = ap not e

-- Holders are renamed.
module _ (s : State) (base : ℕ) (a : Act) (j : ℕ) where
  matches_handed : (es : List Entry) (cs : List Call) → Matches s base es cs → Matches s base (map (handed a j) es) cs
  matches_handed [] cs (rest l f) = rest l f
  matches_handed (e ∷ es) (c ∷ cs) (both _ _ by gives write kept m) = both (handed a j e) c by gives write kept (matches_handed es cs m)
  matches_handed (e ∷ es) cs (more _ f m) = more (handed a j e) f (matches_handed es cs m)
  matches_handed es (c ∷ cs) (less _ f m) = less c f (matches_handed es cs m)

  none_handed : (es : List Entry) → NoneWaits s es → NoneWaits s (map (handed a j) es)
  none_handed es f e i w fine = let p = in_map (handed a j) e es i in
      f p.0 p.1 (subst (λ (x : Entry). IsWaiting s x) p.2 w) (subst (λ (x : Entry). Fine s x.by) p.2 fine)

  pub logged_handed : (es : List Entry) (cs : List Call) → Logged s base es cs → Logged s base (map (handed a j) es) cs
  logged_handed es cs (calm n m) = calm (none_handed es n) (matches_handed es cs m)
  logged_handed (e ∷ es) cs (bad _ f l) = bad (handed a j e) f (logged_handed es cs l)
  logged_handed (e ∷ es) cs (waiting _ f n m) = waiting (handed a j e) f (none_handed es n) (matches_handed es cs m)

-- Entries go whose calls don't count.
module _ (s : State) (base : ℕ) (p : Entry → Bool) where
  matches_kept : (es : List Entry) (cs : List Call) → ((e : Entry) → In e es → p e ≡ false → (c : Call) → In c cs → e.by ≡ c.act →
      c.write ≡ true → (Fine s c.act → s.kept (root c.act) ≡ s.naming.recorded) → Ok s c.act → ⊥) → Matches s base es cs →
      Matches s base (filter p es) cs
  matches_kept [] cs gone' (rest l f) = rest l f
  matches_kept (e ∷ es) (c ∷ cs) gone' (both _ _ by gives write kept m) =
      go (p e) refl (matches_kept es cs (λ d i q b k. gone' d (inr i) q b (inr k)) m)
    where
      go : (b : Bool) → p e ≡ b → Matches s base (filter p es) cs → Matches s base (cond b (e ∷ filter p es) (filter p es)) (c ∷ cs)
      go true q m' = both e c by gives write kept m'
      go false q m' = less c (λ w ok. gone' e (inl refl) q c (inl refl) by w kept ok) m'
  matches_kept (e ∷ es) cs gone' (more _ f m) = go (p e) (matches_kept es cs (λ d i. gone' d (inr i)) m)
    where
      go : (b : Bool) → Matches s base (filter p es) cs → Matches s base (cond b (e ∷ filter p es) (filter p es)) cs
      go true m' = more e f m'
      go false m' = m'
  matches_kept es (c ∷ cs) gone' (less _ f m) = less c f (matches_kept es cs (λ d i q b k. gone' d i q b (inr k)) m)

  none_kept : (es : List Entry) → NoneWaits s es → NoneWaits s (filter p es)
  none_kept es f e i = f e (in_filter p e es i).0

  pub logged_kept : (es : List Entry) (cs : List Call) → ((e : Entry) → In e es → p e ≡ false → (c : Call) → In c cs → e.by ≡ c.act →
      c.write ≡ true → (Fine s c.act → s.kept (root c.act) ≡ s.naming.recorded) → Ok s c.act → ⊥) → Logged s base es cs →
      Logged s base (filter p es) cs
  logged_kept es cs gone' (calm n m) = calm (none_kept es n) (matches_kept es cs gone' m)
  logged_kept (e ∷ es) cs gone' (bad _ f l) = go (p e) (logged_kept es cs (λ d i. gone' d (inr i)) l)
    where
      go : (b : Bool) → Logged s base (filter p es) cs → Logged s base (cond b (e ∷ filter p es) (filter p es)) cs
      go true l' = bad e f l'
      go false l' = l'
  logged_kept (e ∷ es) cs gone' (waiting _ f n m) = go (p e) (matches_kept es cs (λ d i. gone' d (inr i)) m)
    where
      go : (b : Bool) → Matches s base (filter p es) cs → Logged s base (cond b (e ∷ filter p es) (filter p es)) cs
      go true m' = waiting e f (none_kept es n) m'
      go false m' = calm (none_kept es n) m'

-- Where no write that counts waits, the log fits as it is.
pub logged_calm : (s : State) (base : ℕ) (es : List Entry) (cs : List Call) → NoneWaits s es → Logged s base es cs → Matches s base es cs
logged_calm s base es cs none' (calm n m) = m
logged_calm s base (e ∷ es) cs none' (bad _ f l) = more e f (logged_calm s base es cs (λ d i. none' d (inr i)) l)
logged_calm s base (e ∷ es) cs none' (waiting _ f n m) = more e (λ fine. none' e (inl refl) (f fine).0 fine) m

-- A top's commit: the value of the newest write that it holds is the last committed value.
module _ (s : State) (m : Act) (base : ℕ) (oks : (a : Act) → is_action a ≡ true → Survives s a →
    Fine s a × ((s.action (top a)).stage ≡ 3)) where
  pub folded : (es : List Entry) (cs : List Call) → ((e : Entry) → In e es → is_action e.by ≡ true) →
      ((c : Call) → In c cs → is_action c.act ≡ true) → ((e : Entry) → In e es →
      ((same e.holder m ≡ true) × Survives s e.by) ⊎ ((same e.holder m ≡ false) × (Fine s e.by → ⊥))) → Matches s base es cs
      → IsLast s (held_value m base es) cs × ((c : Call) → In c cs → c.write ≡ true → Ok s c.act → Survives s c.act)
  folded [] cs ea ca a (rest l f) = (l, f)
  folded (e ∷ es) (c ∷ cs) ea ca a (both _ _ by gives write kept k) =
      go (a e (inl refl)) (folded es cs (λ d i. ea d (inr i)) (λ d i. ca d (inr i)) (λ d i. a d (inr i)) k)
    where
      go : ((same e.holder m ≡ true) × Survives s e.by) ⊎ ((same e.holder m ≡ false) × (Fine s e.by → ⊥)) →
          IsLast s (held_value m base es) cs × ((d : Call) → In d cs → d.write ≡ true → Ok s d.act → Survives s d.act)
          → IsLast s (held_value m base (e ∷ es)) (c ∷ cs) × ((d : Call) → In d (c ∷ cs) → d.write ≡ true → Ok s d.act → Survives s d.act)
      go (inl (t, f)) r = let f' : Survives s c.act = subst (λ (x : Act). Survives s x) by f in (
        newest c write f' (sym gives ∙ sym (λ i. cond (t i) e.gives (held_value m base es))),
        λ d i wr ok. elim i [ inl is ↦ subst (λ (x : Call). Survives s x.act) (sym is) f' | inr j ↦ r.1 d j wr ok ],
      )
      go (inr (t, f)) r = (
        subst (λ (x : ℕ). IsLast s x (c ∷ cs)) (sym (λ i. cond (t i) e.gives (held_value m base es)))
            (older c (λ wr f'. f (subst (λ (x : Act). Fine s x) (sym by) (oks c.act (ca c (inl refl)) f').0)) r.0),
        λ d i wr ok. elim i
            [ inl is ↦ absurd (f (subst (λ (x : Act). Fine s x) (ap (λ (x : Call). x.act) is ∙ sym by) ok.0)) | inr j ↦ r.1 d j wr ok ],
      )
  folded (e ∷ es) cs ea ca a (more _ f k) = go (a e (inl refl)) (folded es cs (λ d i. ea d (inr i)) ca (λ d i. a d (inr i)) k)
    where
      go : ((same e.holder m ≡ true) × Survives s e.by) ⊎ ((same e.holder m ≡ false) × (Fine s e.by → ⊥)) →
          IsLast s (held_value m base es) cs × ((d : Call) → In d cs → d.write ≡ true → Ok s d.act → Survives s d.act)
          → IsLast s (held_value m base (e ∷ es)) cs × ((d : Call) → In d cs → d.write ≡ true → Ok s d.act → Survives s d.act)
      go (inl (t, g)) r = absurd (f (oks e.by (ea e (inl refl)) g).0)
      go (inr (t, g)) r = (subst (λ (x : ℕ). IsLast s x cs) (sym (λ i. cond (t i) e.gives (held_value m base es))) r.0, r.1)
  folded es (c ∷ cs) ea ca a (less _ f k) = go (folded es cs ea (λ d i. ca d (inr i)) a k)
    where
      go : IsLast s (held_value m base es) cs × ((d : Call) → In d cs → d.write ≡ true → Ok s d.act → Survives s d.act) →
          IsLast s (held_value m base es) (c ∷ cs) × ((d : Call) → In d (c ∷ cs) → d.write ≡ true → Ok s d.act → Survives s d.act)
      go r = (
        older c (λ wr g. f wr ((oks c.act (ca c (inl refl)) g).0, inl (oks c.act (ca c (inl refl)) g).1)) r.0,
        λ d i wr ok. elim i [
          | inl is ↦ absurd (f (subst (λ (x : Call). x.write ≡ true) is wr) (subst (λ (x : Call). Ok s x.act) is ok))
          | inr j ↦ r.1 d j wr ok
        ],
      )

-- What a granted request meets: each write over the copy counts for it, so the newest is what it has to see.
module _ (s : State) (a : Act) (base : ℕ) (kept : s.kept (root a) ≡ s.naming.recorded) (going : GoesOn s (root a)) (oks : (x : Act) →
    is_action x ≡ true → Survives s x → Fine s x × ((s.action (top x)).stage ≡ 3)) where
  mine_ok : (c : Call) → is_action c.act ≡ true → Mine s a c.act → Ok s c.act
  mine_ok c act (inl f) = ((oks c.act act f).0, inl (oks c.act act f).1)
  mine_ok c act (inr (e, clean)) = ((clean, inl (subst (λ (u : ℕ). GoesOn s u) (sym r) going)), inr (ap s.kept r ∙ kept))
    where
      r : root c.act ≡ root a
      r = sym (top_root c.act) ∙ ap root e ∙ top_root a

  pub meets : (es : List Entry) (cs : List Call) → ((c : Call) → In c cs → is_action c.act ≡ true) → ((e : Entry) → In e es →
      Clean s e.by × (top e.by ≡ top a) × (root e.by ≡ root a)) → Matches s base es cs → Newest s.initial (Mine s a) (value_over base es) cs
  meets [] cs ca all' (rest l f) =
      newest_on s.initial s.initial (Survives s) (Mine s a) base cs refl (λ c i w g. inl g) (λ c i w g. f c i w (mine_ok c (ca c i) g)) l
  meets (e ∷ es) (c ∷ cs) ca all' (both _ _ by gives write k m) =
      newest c write (inr (ap top (sym by) ∙ (all' e (inl refl)).1, subst (λ (x : Act). Clean s x) by (all' e (inl refl)).0)) (sym gives)
  meets (e ∷ es) cs ca all' (more _ f m) =
      absurd (f ((all' e (inl refl)).0, inl (subst (λ (u : ℕ). GoesOn s u) (sym (all' e (inl refl)).2) going)))
  meets es (c ∷ cs) ca all' (less _ f m) = older c (λ w g. f w (mine_ok c (ca c (inl refl)) g)) (meets es cs (λ d i. ca d (inr i)) all' m)

-- Whether an action is fine can be told.
dec_stage : (n : ℕ) → (n ≤ 3) ⊎ (4 ≤ n)
dec_stage n = grind arith

dec_two : (n : ℕ) → (n ≤ 2) ⊎ (3 ≤ n)
dec_two n = grind arith

dec_three : (n : ℕ) → (n ≡ 3) ⊎ (n ≢ 3)
dec_three n = grind arith

own_clean : (x : Action) → ((x.stage ≤ 3) × (x.doomed ≡ false)) ⊎ ((x.stage ≤ 3) × (x.doomed ≡ false) → ⊥)
own_clean x = by (dec_stage x.stage) (by_cases x.doomed)
  where
    by : (x.stage ≤ 3) ⊎ (4 ≤ x.stage) → (x.doomed ≡ true) ⊎ (x.doomed ≡ false) →
        ((x.stage ≤ 3) × (x.doomed ≡ false)) ⊎ ((x.stage ≤ 3) × (x.doomed ≡ false) → ⊥)
    by (inl l) (inr f) = inl (l, f)
    by (inl l) (inl t) = inr (λ p. differ t p.1)
    by (inr l) q = inr (λ p. let k = p.0 in omega (arith, l, k))

dec_clean : (s : State) (a : Act) → Clean s a ⊎ (Clean s a → ⊥)
dec_clean s (Root u) = elim (own_clean (s.action (Root u))) [
  | inl p ↦ inl (λ x o. subst (λ (y : Act). ((s.action y).stage ≤ 3) × ((s.action y).doomed ≡ false)) (same_is (Root u) x o) p)
  | inr f ↦ inr (λ c. f (c (Root u) (on_self (Root u))))
]
dec_clean s (Sub a n) = by (dec_clean s a) (own_clean (s.action (Sub a n)))
  where
    by : Clean s a ⊎ (Clean s a → ⊥) → (((s.action (Sub a n)).stage ≤ 3) × ((s.action (Sub a n)).doomed ≡ false))
        ⊎ (((s.action (Sub a n)).stage ≤ 3) × ((s.action (Sub a n)).doomed ≡ false) → ⊥) → Clean s (Sub a n) ⊎ (Clean s (Sub a n) → ⊥)
    by (inl c) (inl p) = inl (λ x o. elim (on_up a n x o)
        [ inl is ↦ subst (λ (y : Act). ((s.action y).stage ≤ 3) × ((s.action y).doomed ≡ false)) (sym is) p | inr q ↦ c x q ])
    by (inr f) q = inr (λ c. f (λ x o. c x (on_above a n x o)))
    by (inl c) (inr f) = inr (λ d. f (d (Sub a n) (on_self (Sub a n))))

pub dec_fine : (s : State) (a : Act) → Fine s a ⊎ (Fine s a → ⊥)
dec_fine s a = by (dec_clean s a) (dec_two (s.action (Root (root a))).stage) (dec_three (s.action (top a)).stage)
  where
    by : Clean s a ⊎ (Clean s a → ⊥) → (GoesOn s (root a)) ⊎ (3 ≤ (s.action (Root (root a))).stage) →
        ((s.action (top a)).stage ≡ 3) ⊎ ((s.action (top a)).stage ≢ 3) → Fine s a ⊎ (Fine s a → ⊥)
    by (inl c) (inl g) q = inl (c, inl g)
    by (inl c) (inr g) (inl e) = inl (c, inr e)
    by (inl c) (inr g) (inr f) = inr (λ p. elim p.1 [ inl l ↦ omega (arith, g, l) | inr e ↦ f e ])
    by (inr f) g q = inr (λ p. f p.0)
