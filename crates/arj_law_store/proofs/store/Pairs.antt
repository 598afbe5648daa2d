-- What a store's calls leave of the pair that files give is the protocol's work on the pair.
use Rattle.arj_law_store.proofs.Terms
use Terms.{◌≡◌, ◌≢◌, ◌⊎◌, ◌∙◌, Bool, true, false, cond, List, [], ◌∷◌, map, refl, sym, ap, subst, ⊎_elim, Option, Some, None, ℕ, IfSome}
use Terms.{option_map, unwrap_or, AllByRecursion, is_eq, bytes_eq, Ordering, Less, Equal, Greater, bytes_eq-Decides, uid_order, state_once}
use Terms.{state_bytes, StateInForm, uid_eq, ObjectState, Uid, uid_is, uid_sym, new_of, IsPairOf, Pair, at_uid, put_uid, without_uid}
use Terms.{packed, uid_of}
use Terms.files
use Rattle.arj_law_store.proofs.store
use store.{Held.all_put, Held.all_without, Held.found}
use store.Keys.{Rises, order_exact, order_itself, put_here, put_other, put_rises, without_here, without_other, without_rises, tied_is}
use Rattle.arj_law_store.specs.store.Files.{AreInForm, IsOneOfEach}
use Rattle.arj_protocol.specs.Effect.{moved, moved_some, new_states, pair_prepared, pair_committed, pair_aborted, pair_in_part}
use Rattle.arj_store.proofs.Entries.{same_entries}
use Rattle.arj_store.specs.Pair.{newer, held_after}
use Rattle.std.proofs.Common.{inl, inr}
use Rattle.std.specs.List.{IsDistinct}

-- two Uids are one, or neither ties the other
uid_split : (u w : Uid) → (u ≡ w) ⊎ ((u ≢ w) × (is_eq (uid_order u w) ≡ false))
uid_split u w = by (uid_order u w) refl
  where
    differ : (o : Ordering) → uid_order u w ≡ o → is_eq o ≡ false → (u ≡ w) ⊎ ((u ≢ w) × (is_eq (uid_order u w) ≡ false))
    differ o is isnt = inr (
      λ same. let never : true ≡ false = sym (ap is_eq (order_itself w)) ∙ (λ i. is_eq (uid_order (sym same i) w)) ∙ ap is_eq is ∙ isnt in
          cc,
      ap is_eq is ∙ isnt,
    )

    by : (o : Ordering) → uid_order u w ≡ o → (u ≡ w) ⊎ ((u ≢ w) × (is_eq (uid_order u w) ≡ false))
    by Less is = differ Less is refl
    by Greater is = differ Greater is refl
    by Equal is = inl (order_exact u w is)

abbrev IsState : Uid → ObjectState → Type 0
IsState u s = StateInForm s

abbrev AreStates : Uid → List ObjectState → Type 0
AreStates a states = AllByRecursion StateInForm states

pub pair_same : (p q : files.Pair) (d : Pair) → files.SamePair p q → IsPairOf p d → IsPairOf q d
pair_same p q d same are = record {
  held = λ u. same.committed u ∙ are.held u;
  pend = λ a. same.prepared a ∙ are.pend a;
  held_rises = are.held_rises;
  pend_rises = are.pend_rises;
  in_form = are.in_form;
}

pub pair_adds : (p q : files.Pair) (d : Pair) (act : Uid) (states : List ObjectState) → AllByRecursion StateInForm states →
    files.Adds p q act states → IsPairOf p d → IsPairOf q (pair_prepared act states d)
pair_adds p q d act states form adds are = record {
  held = λ u. adds.committed u ∙ are.held u;
  pend = λ a. ⊎_elim
      (λ (same : a ≡ act). subst (λ b. q.pend b ≡ option_map packed (at_uid b (put_uid act states d.pend))) (sym same)
      (adds.here ∙ sym (ap (option_map packed) (put_here act states d.pend))))
      (λ (other : (a ≢ act) × (is_eq (uid_order a act) ≡ false)). adds.others a other.0
      ∙ (are.pend a ∙ sym (ap (option_map packed) (put_other act a states d.pend other.1)))) (uid_split a act);
  held_rises = are.held_rises;
  pend_rises = put_rises act states d.pend are.pend_rises;
  in_form = record { held = are.in_form.held; pend = all_put AreStates act states d.pend are.in_form.pend form };
}

-- what an action that is prepared no more leaves of the others
pend_without : (p q : files.Pair) (d : Pair) (act : Uid) → q.pend act ≡ None → ((a : Uid) → a ≢ act → q.pend a ≡ p.pend a) → IsPairOf p d →
    (a : Uid) → q.pend a ≡ option_map packed (at_uid a (without_uid act d.pend))
pend_without p q d act gone others are a = ⊎_elim
    (λ (same : a ≡ act). subst (λ b. q.pend b ≡ option_map packed (at_uid b (without_uid act d.pend))) (sym same)
    (gone ∙ sym (ap (option_map packed) (without_here act d.pend are.pend_rises))))
    (λ (other : (a ≢ act) × (is_eq (uid_order a act) ≡ false)). others a other.0
    ∙ (are.pend a ∙ sym (ap (option_map packed) (without_other act a d.pend other.1)))) (uid_split a act)

pub pair_drops : (p q : files.Pair) (d : Pair) (act : Uid) → files.Drops p q act → IsPairOf p d → IsPairOf q (pair_aborted act d)
pair_drops p q d act drops are = record {
  held = λ u. drops.committed u ∙ are.held u;
  pend = pend_without p q d act drops.gone drops.others are;
  held_rises = are.held_rises;
  pend_rises = without_rises act d.pend are.pend_rises;
  in_form = record { held = are.in_form.held; pend = all_without AreStates act d.pend are.in_form.pend };
}

-- ---- states that are committed

not_among : (u : Uid) (states : List ObjectState) → AllByRecursion (λ w. uid_eq u w ≡ false) (map uid_of states) →
    new_of (packed states) u ≡ None
not_among u [] all = refl
not_among u (s ∷ ss) all = (λ i. cond (all.0 i) (Some (state_bytes s)) (new_of (packed ss) u)) ∙ not_among u ss all.1

abbrev bytes_at : Uid → List (Uid × ObjectState) → Option (List ℕ)
bytes_at u held = option_map state_bytes (at_uid u held)

-- what stands under a Uid once some of the states are put
moved_at : (which : Uid → Bool) (states : List ObjectState) (held : List (Uid × ObjectState)) (u : Uid) →
    IsDistinct uid_eq (map uid_of states)
    → bytes_at u (moved_some which states held) ≡ cond (which u) (newer (new_of (packed states) u) (bytes_at u held)) (bytes_at u held)
unfolding IsDistinct
moved_at which [] held u once = by (which u)
  where
    by : (b : Bool) → bytes_at u held ≡ cond b (bytes_at u held) (bytes_at u held)
    by true = refl
    by false = refl
moved_at which (s ∷ ss) held u once = by (uid_eq u s.uid) refl (moved_at which ss (cond (which s.uid) (put_uid s.uid s held) held) u once.1)
  where
    next : List (Uid × ObjectState)
    next = cond (which s.uid) (put_uid s.uid s held) held

    Rest : Type 0
    Rest = bytes_at u (moved_some which ss next) ≡ cond (which u) (newer (new_of (packed ss) u) (bytes_at u next)) (bytes_at u next)

    itself : (b : Bool) → which u ≡ b → u ≡ s.uid → Rest →
        bytes_at u (moved_some which ss next) ≡ cond b (Some (state_bytes s)) (bytes_at u held)
    itself true is same rest =
        let out : new_of (packed ss) u ≡ None = not_among u ss
        (subst (λ w. AllByRecursion (λ x. uid_eq w x ≡ false) (map uid_of ss)) (sym same) once.0) in
        let put : bytes_at u (put_uid s.uid s held) ≡ Some (state_bytes s) = subst (λ w. bytes_at w (put_uid s.uid s held)
        ≡ Some (state_bytes s)) (sym same) (ap (option_map state_bytes) (put_here s.uid s held)) in
        rest ∙ ((λ i. cond (is i) (newer (out i) (bytes_at u next)) (bytes_at u next))
        ∙ ((λ i. bytes_at u (cond ((sym (ap which same) ∙ is) i) (put_uid s.uid s held) held)) ∙ put))
    itself false is same rest = rest ∙ ((λ i. cond (is i) (newer (new_of (packed ss) u) (bytes_at u next)) (bytes_at u next))
        ∙ (λ i. bytes_at u (cond ((sym (ap which same) ∙ is) i) (put_uid s.uid s held) held)))

    kept : (b : Bool) → is_eq (uid_order u s.uid) ≡ false → bytes_at u (cond b (put_uid s.uid s held) held) ≡ bytes_at u held
    kept true isnt = ap (option_map state_bytes) (put_other s.uid u s held isnt)
    kept false isnt = refl

    split : (b : Bool) → which u ≡ b → u ≡ s.uid → Rest →
        bytes_at u (moved_some which ss next) ≡ cond (which u) (Some (state_bytes s)) (bytes_at u held)
    split b e same rest = itself b e same rest ∙ (λ i. cond (sym e i) (Some (state_bytes s)) (bytes_at u held))

    by : (b : Bool) → uid_eq u s.uid ≡ b → Rest → bytes_at u (moved_some which ss next)
        ≡ cond (which u) (newer (cond b (Some (state_bytes s)) (new_of (packed ss) u)) (bytes_at u held)) (bytes_at u held)
    by true is rest = split (which u) refl (uid_is u s.uid is) rest
    by false is rest = let stays = kept (which s.uid) (tied_is u s.uid ∙ (uid_sym s.uid u ∙ is)) in
        rest ∙ (λ i. cond (which u) (newer (new_of (packed ss) u) (stays i)) (stays i))

pub moved_all : (states : List ObjectState) (held : List (Uid × ObjectState)) → moved states held ≡ moved_some (λ u. true) states held
moved_all [] held = refl
moved_all (s ∷ ss) held = moved_all ss (put_uid s.uid s held)

pub moved_rises : (which : Uid → Bool) (states : List ObjectState) (held : List (Uid × ObjectState)) → Rises held →
    Rises (moved_some which states held)
moved_rises which [] held rises = rises
moved_rises which (s ∷ ss) held rises = moved_rises which ss (cond (which s.uid) (put_uid s.uid s held) held) (by (which s.uid))
  where
    by : (b : Bool) → Rises (cond b (put_uid s.uid s held) held)
    by true = put_rises s.uid s held rises
    by false = rises

moved_form : (which : Uid → Bool) (states : List ObjectState) (held : List (Uid × ObjectState)) → AllByRecursion StateInForm states →
    AllByRecursion (λ (e : Uid × ObjectState). StateInForm e.1) held →
    AllByRecursion (λ (e : Uid × ObjectState). StateInForm e.1) (moved_some which states held)
moved_form which [] held form all = all
moved_form which (s ∷ ss) held form all = moved_form which ss (cond (which s.uid) (put_uid s.uid s held) held) form.1 (by (which s.uid))
  where
    by : (b : Bool) → AllByRecursion (λ (e : Uid × ObjectState). StateInForm e.1) (cond b (put_uid s.uid s held) held)
    by true = all_put IsState s.uid s held all form.0
    by false = all

new_form : (d : Pair) (act : Uid) → AreInForm d → AllByRecursion StateInForm (new_states act d)
new_form d act form = by (at_uid act d.pend) (found AreStates act d.pend form.pend)
  where
    by : (o : Option (List ObjectState)) → IfSome o (AllByRecursion StateInForm) → AllByRecursion StateInForm (unwrap_or o [])
    by None all = tt
    by (Some states) all = all

after_is : (p : files.Pair) (d : Pair) (act u : Uid) → IsPairOf p d →
    held_after (p.pend act) u (p.held u) ≡ newer (new_of (packed (new_states act d)) u) (bytes_at u d.held)
after_is p d act u are = (λ i. held_after (are.pend act i) u (are.held u i)) ∙ by (at_uid act d.pend) refl
  where
    by : (o : Option (List ObjectState)) → at_uid act d.pend ≡ o →
        held_after (option_map packed o) u (bytes_at u d.held) ≡ newer (new_of (packed (unwrap_or o [])) u) (bytes_at u d.held)
    by None is = refl
    by (Some states) is = refl

pub pair_moves : (p q : files.Pair) (d : Pair) (act : Uid) → IsOneOfEach d act → files.Moves p q act → IsPairOf p d →
    IsPairOf q (pair_committed act d)
pair_moves p q d act once moves are = record {
  held = λ u. moves.committed u ∙ (after_is p d act u are
      ∙ sym (ap (bytes_at u) (moved_all (new_states act d) d.held) ∙ moved_at (λ w. true) (new_states act d) d.held u once));
  pend = pend_without p q d act moves.gone moves.others are;
  held_rises = subst Rises (sym (moved_all (new_states act d) d.held)) (moved_rises (λ w. true) (new_states act d) d.held are.held_rises);
  pend_rises = without_rises act d.pend are.pend_rises;
  in_form = record {
    held = subst (AllByRecursion (λ (e : Uid × ObjectState). StateInForm e.1)) (sym (moved_all (new_states act d) d.held))
        (moved_form (λ w. true) (new_states act d) d.held (new_form d act are.in_form) are.in_form.held);
    pend = all_without AreStates act d.pend are.in_form.pend;
  };
}

-- ---- some of them

abbrev same_file : Option (List ℕ) → Option (List ℕ) → Bool
same_file None None = true
same_file None (Some b) = false
same_file (Some a) None = false
same_file (Some a) (Some b) = bytes_eq a b

never_true : true ≡ false → ⊥
never_true e = subst (λ b. cond b (Unit {0}) ⊥) e tt

file_is : (a b : Option (List ℕ)) → same_file a b ≡ true → a ≡ b
file_is None None is = refl
file_is None (Some b) is = let never : true ≡ false = sym is in absurd (never_true never)
file_is (Some a) None is = let never : true ≡ false = sym is in absurd (never_true never)
file_is (Some a) (Some b) is = ap Some ((bytes_eq-Decides a b).0 is)

file_itself : (a : Option (List ℕ)) → same_file a a ≡ true
file_itself None = refl
file_itself (Some a) = (bytes_eq-Decides a a).1 refl

pub pair_moves_some : (p q : files.Pair) (d : Pair) (act : Uid) → IsOneOfEach d act → files.MovesSome p q act → IsPairOf p d →
    (which : Uid → Bool) × IsPairOf q (pair_in_part which act d)
pair_moves_some p q d act once moves are = (
  which,
  record {
    held = λ u. by u (which u) refl ∙ sym (moved_at which (new_states act d) d.held u once);
    pend = λ a. moves.prepared a ∙ are.pend a;
    held_rises = moved_rises which (new_states act d) d.held are.held_rises;
    pend_rises = are.pend_rises;
    in_form =
        record { held = moved_form which (new_states act d) d.held (new_form d act are.in_form) are.in_form.held; pend = are.in_form.pend };
  },
)
  where
    which : Uid → Bool
    which u = same_file (q.held u) (held_after (p.pend act) u (p.held u))

    by : (u : Uid) (b : Bool) → which u ≡ b →
        q.held u ≡ cond b (newer (new_of (packed (new_states act d)) u) (bytes_at u d.held)) (bytes_at u d.held)
    by u true is = file_is (q.held u) (held_after (p.pend act) u (p.held u)) is ∙ after_is p d act u are
    by u false isnt = ⊎_elim (λ (old : q.held u ≡ p.held u). old ∙ are.held u)
        (λ (new : q.held u ≡ held_after (p.pend act) u (p.held u)). let never : true ≡ false = sym (file_itself (q.held u))
        ∙ (λ i. same_file (q.held u) (new i)) ∙ isnt in absurd (never_true never)) (moves.committed u)

-- ---- the files give one pair

-- values that are told apart by what they are packed as stand alike where that is alike
module _ {X Y : Type 0} (Good : X → Type 0) (f : X → Y) (once : (x y : X) → Good x → Good y → f x ≡ f y → x ≡ y) where
  alike : (a b : Option X) → IfSome a Good → IfSome b Good → option_map f a ≡ option_map f b → a ≡ b
  alike None None ga gb same = refl
  alike None (Some y) ga gb same = absurd (cc same)
  alike (Some x) None ga gb same = absurd (cc same)
  alike (Some x) (Some y) ga gb same = let is : f x ≡ f y = cc in ap Some (once x y ga gb is)

abbrev first_bytes : List (Uid × List ℕ) → List ℕ
first_bytes [] = []
first_bytes (e ∷ es) = e.1

abbrev others : List (Uid × List ℕ) → List (Uid × List ℕ)
others [] = []
others (e ∷ es) = es

-- states in form that are packed alike are one list
pub packed_once : (ss ts : List ObjectState) → AllByRecursion StateInForm ss → AllByRecursion StateInForm ts → packed ss ≡ packed ts →
    ss ≡ ts
packed_once [] [] a b same = refl
packed_once [] (t ∷ ts) a b same = absurd (cc same)
packed_once (s ∷ ss) [] a b same = absurd (cc same)
packed_once (s ∷ ss) (t ∷ ts) a b same =
    let here : s ≡ t = state_once s t a.0 b.0 (ap first_bytes same) in
    let rest : ss ≡ ts = packed_once ss ts a.1 b.1 (ap others same) in
    λ i. here i ∷ rest i

pub one_pair : (p : files.Pair) (d e : Pair) → IsPairOf p d → IsPairOf p e → d ≡ e
one_pair p d e are are' =
    let held : d.held ≡ e.held = same_entries d.held e.held are.held_rises are'.held_rises
    (λ u. alike StateInForm state_bytes state_once (at_uid u d.held) (at_uid u e.held) (found IsState u d.held are.in_form.held)
    (found IsState u e.held are'.in_form.held) (sym (are.held u) ∙ are'.held u)) in
    let pend : d.pend ≡ e.pend = same_entries d.pend e.pend are.pend_rises are'.pend_rises
    (λ a. alike (AllByRecursion StateInForm) packed packed_once (at_uid a d.pend) (at_uid a e.pend)
    (found AreStates a d.pend are.in_form.pend) (found AreStates a e.pend are'.in_form.pend) (sym (are.pend a) ∙ are'.pend a)) in
    λ i. record { held = held i; pend = pend i }
