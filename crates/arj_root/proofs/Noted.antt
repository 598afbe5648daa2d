-- Questions on noted lists, answered by their paths at a number.
use Rattle.std.proofs.Common.{◌≡◌, ℕ, Bool, true, false, not, ◌&&◌, ◌||◌, ◌==◌, List, filter, [], ◌∷◌, ◌++◌, append-nil, refl, ap, sym, ◌∙◌}
use Rattle.std.proofs.Common.{if◌then◌else◌, arith}
use Rattle.std.specs.List.{list_any, list_all}
use Rattle.std.specs.Ordering.{nat_cmp, is_eq}
use Rattle.std.specs.declared.cmp.Ordering.{Ordering}
use Rattle.std.specs.declared.cmp.Ordering.TheVariants.{Less, Equal, Greater}
use Rattle.std.specs.FinMap.{nat_cmp-IsAntisymmetric}
use Rattle.std.proofs.lemmas.Bool.Decides.{nat_tests}
use Rattle.arj_base.specs.Rows.{last_uid}
use Rattle.arj_base.specs.Uid.{uid_eq}
use Rattle.arj_protocol.proofs.Maps.{put_other, put_same}
use Rattle.arj_protocol.specs.Coord.{Said, Went, same_said, same_went, same_flag, with_said, with_went}
use Rattle.arj_protocol.specs.Words.{Uid}
use Rattle.arj_root.specs.Noted.{of_calls, of_sends, Index, listed, indexed, paths_by, is_call_on, is_send_to, HasCalls, HasSends}

-- one that passes a test on its path
pub any_by : {A : Type 0} (on : A → Bool) (path : A → List Uid) (test : List Uid → Bool) (items : List A) →
    list_any (λ a. on a && test (path a)) items ≡ list_any test (paths_by on path items)
any_by on path test [] = refl
any_by {A} on path test (a ∷ items) = by (on a) (any_by on path test items)
  where
    by : (b : Bool) → list_any (λ a. on a && test (path a)) items ≡ list_any test (paths_by on path items)
        → ((b && test (path a)) || list_any (λ a. on a && test (path a)) items) ≡ list_any test (if b then path a ∷ paths_by on path items else paths_by on path items)
    by true ih = ap (λ rest. test (path a) || rest) ih
    by false ih = ih

-- one among those that pass a test
pub any_within : {A : Type 0} (on test : A → Bool) (items : List A) → list_any on (filter test items) ≡ list_any (λ a. on a && test a) items
any_within on test [] = refl
any_within {A} on test (a ∷ items) = by (on a) refl (test a) (any_within on test items)
  where
    by : (b : Bool) → on a ≡ b → (t : Bool) → list_any on (filter test items) ≡ list_any (λ a. on a && test a) items
        → list_any on (if t then a ∷ filter test items else filter test items) ≡ ((b && t) || list_any (λ a. on a && test a) items)
    by true is true ih = rw is refl
    by true is false ih = ih
    by false is true ih = rw is ih
    by false is false ih = ih

-- all that have the number pass
pub all_by : {A : Type 0} (on : A → Bool) (path : A → List Uid) (test : List Uid → Bool) (items : List A) →
    list_all (λ a. not (on a) || test (path a)) items ≡ list_all test (paths_by on path items)
all_by on path test [] = refl
all_by {A} on path test (a ∷ items) = by (on a) (all_by on path test items)
  where
    by : (b : Bool) → list_all (λ a. not (on a) || test (path a)) items ≡ list_all test (paths_by on path items)
        → ((not b || test (path a)) && list_all (λ a. not (on a) || test (path a)) items) ≡ list_all test (if b then path a ∷ paths_by on path items else paths_by on path items)
    by true ih = ap (λ rest. test (path a) && rest) ih
    by false ih = ih

-- one more item
pub by_more : {A : Type 0} (on : A → Bool) (path : A → List Uid) (items : List A) (a : A) →
    paths_by on path (items ++ a ∷ []) ≡ paths_by on path items ++ (if on a then path a ∷ [] else [])
by_more on path [] a = refl
by_more on path (b ∷ items) a = by (on b) (by_more on path items a)
  where
    by : (t : Bool) → paths_by on path (items ++ a ∷ []) ≡ paths_by on path items ++ (if on a then path a ∷ [] else [])
        → (if t then path b ∷ paths_by on path (items ++ a ∷ []) else paths_by on path (items ++ a ∷ [])) ≡ (if t then path b ∷ paths_by on path items else paths_by on path items) ++ (if on a then path a ∷ [] else [])
    by true ih = ap (λ rest. path b ∷ rest) ih
    by false ih = ih

-- what an index has at a number after one more
pub listed_more : (k j : ℕ) (p : List Uid) (m : Index) → listed j (indexed k p m) ≡ listed j m ++ (if k == j then p ∷ [] else [])
listed_more k j p m = by (nat_cmp j k) refl
  where
    elsewhere : is_eq (nat_cmp j k) ≡ false → listed j (indexed k p m) ≡ listed j m ++ (if k == j then p ∷ [] else [])
    elsewhere apart =
        let other : (k == j) ≡ false = grind (arith, nat_tests, apart) in
        rw (put_other k j (listed k m ++ p ∷ []) m apart) (rw other (sym (append-nil (listed j m))))

    by : (r : Ordering) → nat_cmp j k ≡ r → listed j (indexed k p m) ≡ listed j m ++ (if k == j then p ∷ [] else [])
    by Less is = elsewhere (ap is_eq is)
    by Greater is = elsewhere (ap is_eq is)
    by Equal is =
        let same : j ≡ k = nat_cmp-IsAntisymmetric j k is in
        let here : (k == k) ≡ true = grind arith in
        rw same (rw (put_same k (listed k m ++ p ∷ []) m) (rw here refl))

flip : (a b : ℕ) → (a == b) ≡ (b == a)
flip a b = grind (arith, nat_tests)

flip_flag : (a b : Bool) → same_flag a b ≡ same_flag b a
flip_flag true true = refl
flip_flag true false = refl
flip_flag false true = refl
flip_flag false false = refl

swap : (a b : Bool) → (a && b) ≡ (b && a)
swap true true = refl
swap true false = refl
swap false true = refl
swap false false = refl

-- a call that is noted
pub calls_more : (m : Index) (said : List Said) (s : Said) → HasCalls m said → HasCalls (indexed s.x s.path m) (said ++ s ∷ [])
calls_more m said s has x =
    listed_more s.x x s.path m ∙ ap (λ ps. ps ++ (if s.x == x then s.path ∷ [] else [])) (has x) ∙ sym (by_more (is_call_on x) (λ s. s.path) said s)

pub call_is : (m : Index) (said : List Said) (s : Said) → HasCalls m said →
    list_any (same_said s) said ≡ list_any (λ p. uid_eq (last_uid s.path) (last_uid p)) (listed s.x m)
call_is m said s has =
    (λ i. list_any (λ t. turned t i) said) ∙ any_by (is_call_on s.x) (λ s. s.path) (λ p. uid_eq (last_uid s.path) (last_uid p)) said
    ∙ ap (list_any (λ p. uid_eq (last_uid s.path) (last_uid p))) (sym (has s.x))
  where
    turned : (t : Said) → same_said s t ≡ (is_call_on s.x t && uid_eq (last_uid s.path) (last_uid t.path))
    turned t = swap (uid_eq (last_uid s.path) (last_uid t.path)) (s.x == t.x) ∙ ap (λ b. b && uid_eq (last_uid s.path) (last_uid t.path)) (flip s.x t.x)

-- a send that is noted, in the index of its kind and in that of the other kind
pub sends_more : (m : Index) (went : List Went) (w : Went) → HasSends w.invoke m went →
    HasSends w.invoke (indexed w.node w.path m) (went ++ w ∷ [])
sends_more m went w has n =
    listed_more w.node n w.path m ∙ (λ i. has n i ++ (if own i then w.path ∷ [] else [])) ∙ sym (by_more (is_send_to w.invoke n) (λ w. w.path) went w)
  where
    itself : (b : Bool) → same_flag b b ≡ true
    itself true = refl
    itself false = refl

    own : (w.node == n) ≡ is_send_to w.invoke n w
    own = sym (swap (w.node == n) (same_flag w.invoke w.invoke) ∙ ap (λ b. b && (w.node == n)) (itself w.invoke))

pub sends_other : (invoke : Bool) (m : Index) (went : List Went) (w : Went) → same_flag w.invoke invoke ≡ false → HasSends invoke m went →
    HasSends invoke m (went ++ w ∷ [])
sends_other invoke m went w other has n =
    has n ∙ sym (append-nil (paths_by (is_send_to invoke n) (λ w. w.path) went)) ∙ ap (λ b. paths_by (is_send_to invoke n) (λ w. w.path) went ++ (if b then w.path ∷ [] else [])) (sym none)
    ∙ sym (by_more (is_send_to invoke n) (λ w. w.path) went w)
  where
    none : is_send_to invoke n w ≡ false
    none = swap (w.node == n) (same_flag w.invoke invoke) ∙ ap (λ b. b && (w.node == n)) other

pub send_is : (m : Index) (went : List Went) (w : Went) → HasSends w.invoke m went →
    list_any (same_went w) went ≡ list_any (λ p. uid_eq (last_uid w.path) (last_uid p)) (listed w.node m)
send_is m went w has =
    (λ i. list_any (λ v. turned v i) went) ∙ any_by (is_send_to w.invoke w.node) (λ w. w.path) (λ p. uid_eq (last_uid w.path) (last_uid p)) went
    ∙ ap (list_any (λ p. uid_eq (last_uid w.path) (last_uid p))) (sym (has w.node))
  where
    turned : (v : Went) → same_went w v ≡ (is_send_to w.invoke w.node v && uid_eq (last_uid w.path) (last_uid v.path))
    turned v =
        swap (uid_eq (last_uid w.path) (last_uid v.path)) ((w.node == v.node) && same_flag w.invoke v.invoke)
        ∙ (λ i. (flip w.node v.node i && flip_flag w.invoke v.invoke i) && uid_eq (last_uid w.path) (last_uid v.path))

-- ---- noting a call

-- what the index answered is what the list answers
pub asked_call : (m : Index) (said kept : List Said) (s : Said) (u : Uid) (h : Bool) → said ≡ kept → HasCalls m said → u ≡ last_uid s.path →
    h ≡ list_any (λ p. uid_eq u (last_uid p)) (listed s.x m) → list_any (same_said s) kept ≡ h
asked_call m said kept s u h same has u_is h_is =
    ap (list_any (same_said s)) (sym same) ∙ call_is m said s has ∙ ap (λ u. list_any (λ p. uid_eq u (last_uid p)) (listed s.x m)) (sym u_is) ∙ sym h_is

pub call_again : (s : Said) (kept : List Said) → list_any (same_said s) kept ≡ true → kept ≡ (with_said s (of_calls kept)).said
call_again s kept found = rw found refl

pub call_new : (s : Said) (said kept items : List Said) → list_any (same_said s) kept ≡ false → said ≡ kept → items ≡ said ++ s ∷ [] →
    items ≡ (with_said s (of_calls kept)).said
call_new s said kept items none same items_is = rw none (items_is ∙ ap (λ (l : List Said). l ++ s ∷ []) same)

pub calls_noted : (m new : Index) (said items : List Said) (s : Said) → HasCalls m said → new ≡ indexed s.x s.path m →
    items ≡ said ++ s ∷ [] → HasCalls new items
calls_noted m new said items s has new_is items_is x =
    ap (listed x) new_is ∙ calls_more m said s has x ∙ ap (paths_by (is_call_on x) (λ s. s.path)) (sym items_is)

-- ---- noting a send

pub asked_send : (m : Index) (went kept : List Went) (w : Went) (k : ℕ) (u : Uid) (h : Bool) → went ≡ kept → HasSends w.invoke m went →
    k ≡ w.node → u ≡ last_uid w.path → h ≡ list_any (λ p. uid_eq u (last_uid p)) (listed k m)
    → list_any (same_went w) kept ≡ h
asked_send m went kept w k u h same has k_is u_is h_is =
    ap (list_any (same_went w)) (sym same) ∙ send_is m went w has ∙ (λ i. list_any (λ p. uid_eq (sym u_is i) (last_uid p)) (listed (sym k_is i) m)) ∙ sym h_is

pub send_again : (w : Went) (kept : List Went) → list_any (same_went w) kept ≡ true → kept ≡ (with_went w (of_sends kept)).went
send_again w kept found = rw found refl

pub send_new : (w : Went) (went kept items : List Went) → list_any (same_went w) kept ≡ false → went ≡ kept → items ≡ went ++ w ∷ [] →
    items ≡ (with_went w (of_sends kept)).went
send_new w went kept items none same items_is = rw none (items_is ∙ ap (λ (l : List Went). l ++ w ∷ []) same)

pub sends_noted : (m new : Index) (went items : List Went) (w : Went) (k : ℕ) → HasSends w.invoke m went → k ≡ w.node →
    new ≡ indexed k w.path m → items ≡ went ++ w ∷ [] → HasSends w.invoke new items
sends_noted m new went items w k has k_is new_is items_is n =
    ap (listed n) (new_is ∙ ap (λ k. indexed k w.path m) k_is) ∙ sends_more m went w has n ∙ ap (paths_by (is_send_to w.invoke n) (λ w. w.path)) (sym items_is)

pub sends_kept : (invoke : Bool) (m : Index) (went items : List Went) (w : Went) → same_flag w.invoke invoke ≡ false →
    HasSends invoke m went → items ≡ went ++ w ∷ [] → HasSends invoke m items
sends_kept invoke m went items w other has items_is n =
    sends_other invoke m went w other has n ∙ ap (paths_by (is_send_to invoke n) (λ w. w.path)) (sym items_is)
