-- Tests that compute: paths as lists, messages in the net, the last value.
use Rattle.arj_law_lock.proofs.Terms
use Terms.{◌≡◌, ◌≤◌, ◌⊎◌, ℕ, ◌==◌, List, [], ◌∷◌, Bool, true, false, cond, not, ◌&&◌, ◌||◌, max, inl, inr, refl, sym, ◌∙◌, ap, subst, arith}
use Terms.{Act, Root, Sub, same, on, is_action, In, Call, Request, Message, Live, Made, Granted, Activate, Activated, Recorded, Invoke}
use Terms.{Invoked, Refused, Changed, Vote, Confirm, State, Alive, Merged, Open, none, newest, older, IsLast, Survives}
use Rattle.arj_law_lock.proofs.machine.Paths.{differ, and_both, or_one, same_number, same_is, on_up, on_above, on_self, number_self}

-- Tests.

abbrev pub le : ℕ → ℕ → Bool
le x y = max x y == y

pub le_is : (x y : ℕ) → le x y ≡ true → x ≤ y
le_is x y e = let q = same_number (max x y) y e in omega (arith, q)

pub is_le : (x y : ℕ) → x ≤ y → le x y ≡ true
is_le x y l = let e : y ≡ max x y = omega (arith, l) in subst (λ (z : ℕ). (z == y) ≡ true) e (number_self y)

abbrev pub all_of : {A : Type 0} → (A → Bool) → List A → Bool
all_of p [] = true
all_of p (x ∷ xs) = p x && all_of p xs

pub all_in : {A : Type 0} (p : A → Bool) (xs : List A) → all_of p xs ≡ true → (x : A) → In x xs → p x ≡ true
all_in p [] e x i = absurd i
all_in p (y ∷ ys) e x (inl is) = ap p is ∙ (and_both (p y) (all_of p ys) e).0
all_in p (y ∷ ys) e x (inr i) = all_in p ys (and_both (p y) (all_of p ys) e).1 x i

pub in_all : {A : Type 0} (p : A → Bool) (xs : List A) → ((x : A) → In x xs → p x ≡ true) → all_of p xs ≡ true
in_all p [] f = refl
in_all p (y ∷ ys) f = (λ i. f y (inl refl) i && in_all p ys (λ x j. f x (inr j)) i)

abbrev pub some_of : {A : Type 0} → (A → Bool) → List A → Bool
some_of p [] = false
some_of p (x ∷ xs) = p x || some_of p xs

pub some_in : {A : Type 0} (p : A → Bool) (xs : List A) → some_of p xs ≡ true → (x : A) × In x xs × (p x ≡ true)
some_in p [] e = let never : false ≡ true = e in absurd (cc)
some_in {A} p (y ∷ ys) e = by (some_in p ys) (or_one (p y) (some_of p ys) e)
  where
    by : (some_of p ys ≡ true → (x : A) × In x ys × (p x ≡ true)) → (p y ≡ true) ⊎ (some_of p ys ≡ true) →
        (x : A) × In x (y ∷ ys) × (p x ≡ true)
    by ih (inl t) = (y, inl refl, t)
    by ih (inr t) = let r = ih t in (r.0, inr r.1, r.2)

abbrev pub Each : List Bool → Type 0
Each [] = Unit {0}
Each (b ∷ bs) = (b ≡ true) × Each bs

pub each : (bs : List Bool) → all_of (λ b. b) bs ≡ true → Each bs
each [] e = tt
each (b ∷ bs) e = let p = and_both b (all_of (λ c. c) bs) e in (p.0, each bs p.1)

pub is_not : (b : Bool) → not b ≡ true → b ≡ false
is_not true e = let never : false ≡ true = e in absurd (cc)
is_not false e = refl

pub implied : (a b : Bool) → (not a || b) ≡ true → a ≡ true → b ≡ true
implied true b e t = e
implied false b e t = let never : false ≡ true = t in absurd (cc)

-- Paths as lists.

abbrev pub path : Act → List Act
path (Root u) = Root u ∷ []
path (Sub a n) = Sub a n ∷ path a

pub on_path : (a u : Act) → on a u ≡ true → In u (path a)
on_path (Root v) u o = inl (sym (same_is (Root v) u o))
on_path (Sub a n) u o = by (on_path a u) (on_up a n u o)
  where
    by : (on a u ≡ true → In u (path a)) → (u ≡ Sub a n) ⊎ (on a u ≡ true) → In u (Sub a n ∷ path a)
    by ih (inl is) = inl is
    by ih (inr q) = inr (ih q)

pub path_on : (a u : Act) → In u (path a) → on a u ≡ true
path_on (Root v) u (inl is) = subst (λ (x : Act). on (Root v) x ≡ true) (sym is) (on_self (Root v))
path_on (Root v) u (inr i) = absurd i
path_on (Sub a n) u (inl is) = subst (λ (x : Act). on (Sub a n) x ≡ true) (sym is) (on_self (Sub a n))
path_on (Sub a n) u (inr i) = on_above a n u (path_on a u i)

abbrev pub stage_on : State → (ℕ → Bool) → Act → Bool
stage_on s p a = all_of (λ u. p (s.action u).stage) (path a)

pub open_is : (s : State) (a : Act) → stage_on s (λ n. n == 0) a ≡ true → Open s a
open_is s a e u o = same_number (s.action u).stage 0 (all_in (λ x. (s.action x).stage == 0) (path a) e u (on_path a u o))

pub alive_is : (s : State) (a : Act) → stage_on s (λ n. le n 3) a ≡ true → Alive s a
alive_is s a e u o = le_is (s.action u).stage 3 (all_in (λ x. le (s.action x).stage 3) (path a) e u (on_path a u o))

abbrev pub survives : State → Act → Bool
survives s a = all_of (λ u. not (is_action u) || ((s.action u).stage == 3)) (path a)

pub survives_is : (s : State) (a : Act) → survives s a ≡ true → Survives s a
survives_is s a e u o act = same_number (s.action u).stage 3 (implied (is_action u) ((s.action u).stage == 3)
    (all_in (λ x. not (is_action x) || ((s.action x).stage == 3)) (path a) e u (on_path a u o)) act)

is_survives : (s : State) (a : Act) → Survives s a → survives s a ≡ true
is_survives s a f = in_all (λ u. not (is_action u) || ((s.action u).stage == 3)) (path a) (λ u i. by u (path_on a u i) (is_action u) refl)
  where
    by : (u : Act) → on a u ≡ true → (b : Bool) → is_action u ≡ b → (not b || ((s.action u).stage == 3)) ≡ true
    by u o true act = subst (λ (n : ℕ). (n == 3) ≡ true) (sym (f u o act)) refl
    by u o false act = refl

abbrev pub merged : State → Act → Act → Bool
merged s a b = all_of (λ u. on b u || ((s.action u).stage == 3)) (path a)

pub merged_is : (s : State) (a b : Act) → merged s a b ≡ true → Merged s a b
merged_is s a b e u o f = elim (or_one (on b u) ((s.action u).stage == 3) (all_in (λ x. on b x || ((s.action x).stage == 3)) (path a) e u
    (on_path a u o))) [ inl t ↦ differ t f | inr t ↦ same_number (s.action u).stage 3 t ]

-- Messages.

abbrev pub same_request : Request → Request → Bool
same_request q r = same q.act r.act && ((q.number == r.number) && ((q.binding == r.binding) && cond q.write r.write (not r.write)))

same_bool : (a b : Bool) → cond a b (not b) ≡ true → a ≡ b
same_bool true b e = sym e
same_bool false b e = sym (is_not b e)

request_is : (q r : Request) → same_request q r ≡ true → q ≡ r
request_is q r e =
    let a = and_both (same q.act r.act) ((q.number == r.number) && ((q.binding == r.binding) && cond q.write r.write (not r.write))) e in
    let b = and_both (q.number == r.number) ((q.binding == r.binding) && cond q.write r.write (not r.write)) a.1 in
    let c = and_both (q.binding == r.binding) (cond q.write r.write (not r.write)) b.1 in
    λ i. record {
      act = same_is q.act r.act a.0 i;
      number = same_number q.number r.number b.0 i;
      binding = same_number q.binding r.binding c.0 i;
      write = same_bool q.write r.write c.1 i;
    }

abbrev pub same_message : Message → Message → Bool
same_message (Live m b) (Live n c) = same m n && (b == c)
same_message (Made m b) (Made n c) = same m n && (b == c)
same_message (Granted m b) (Granted n c) = same m n && (b == c)
same_message (Activate b v) (Activate c w) = (b == c) && (v == w)
same_message (Activated b v) (Activated c w) = (b == c) && (v == w)
same_message (Recorded b) (Recorded c) = b == c
same_message (Invoke q) (Invoke r) = same_request q r
same_message (Invoked q) (Invoked r) =
    same_request q.request r.request && ((q.place == r.place) && ((q.sees == r.sees) && (q.gives == r.gives)))
same_message (Refused q) (Refused r) = same_request q r
same_message (Changed b) (Changed c) = b == c
same_message (Vote m b i) (Vote n c j) = same m n && ((b == c) && (i == j))
same_message (Confirm m q) (Confirm n r) = same m n && (q == r)
same_message _ _ = false

two : (m n : Act) (b c : ℕ) (F : Act → ℕ → Message) → (same m n && (b == c)) ≡ true → F m b ≡ F n c
two m n b c F e = let p = and_both (same m n) (b == c) e in λ i. F (same_is m n p.0 i) (same_number b c p.1 i)

abbrev pub has : Message → List Message → Bool
has m ms = some_of (same_message m) ms

message_is : (a b : Message) → same_message a b ≡ true → a ≡ b
message_is (Live m b) (Live n c) e = two m n b c Live e
message_is (Live m b) (Made n c) e = let never : false ≡ true = e in absurd (cc)
message_is (Live m b) (Granted n c) e = let never : false ≡ true = e in absurd (cc)
message_is (Live m b) (Activate c w) e = let never : false ≡ true = e in absurd (cc)
message_is (Live m b) (Activated c w) e = let never : false ≡ true = e in absurd (cc)
message_is (Live m b) (Recorded c) e = let never : false ≡ true = e in absurd (cc)
message_is (Live m b) (Invoke r) e = let never : false ≡ true = e in absurd (cc)
message_is (Live m b) (Invoked r) e = let never : false ≡ true = e in absurd (cc)
message_is (Live m b) (Refused r) e = let never : false ≡ true = e in absurd (cc)
message_is (Live m b) (Changed c) e = let never : false ≡ true = e in absurd (cc)
message_is (Live m b) (Vote n c y) e = let never : false ≡ true = e in absurd (cc)
message_is (Live m b) (Confirm n r) e = let never : false ≡ true = e in absurd (cc)
message_is (Made m b) (Live n c) e = let never : false ≡ true = e in absurd (cc)
message_is (Made m b) (Made n c) e = two m n b c Made e
message_is (Made m b) (Granted n c) e = let never : false ≡ true = e in absurd (cc)
message_is (Made m b) (Activate c w) e = let never : false ≡ true = e in absurd (cc)
message_is (Made m b) (Activated c w) e = let never : false ≡ true = e in absurd (cc)
message_is (Made m b) (Recorded c) e = let never : false ≡ true = e in absurd (cc)
message_is (Made m b) (Invoke r) e = let never : false ≡ true = e in absurd (cc)
message_is (Made m b) (Invoked r) e = let never : false ≡ true = e in absurd (cc)
message_is (Made m b) (Refused r) e = let never : false ≡ true = e in absurd (cc)
message_is (Made m b) (Changed c) e = let never : false ≡ true = e in absurd (cc)
message_is (Made m b) (Vote n c y) e = let never : false ≡ true = e in absurd (cc)
message_is (Made m b) (Confirm n r) e = let never : false ≡ true = e in absurd (cc)
message_is (Granted m b) (Live n c) e = let never : false ≡ true = e in absurd (cc)
message_is (Granted m b) (Made n c) e = let never : false ≡ true = e in absurd (cc)
message_is (Granted m b) (Granted n c) e = two m n b c Granted e
message_is (Granted m b) (Activate c w) e = let never : false ≡ true = e in absurd (cc)
message_is (Granted m b) (Activated c w) e = let never : false ≡ true = e in absurd (cc)
message_is (Granted m b) (Recorded c) e = let never : false ≡ true = e in absurd (cc)
message_is (Granted m b) (Invoke r) e = let never : false ≡ true = e in absurd (cc)
message_is (Granted m b) (Invoked r) e = let never : false ≡ true = e in absurd (cc)
message_is (Granted m b) (Refused r) e = let never : false ≡ true = e in absurd (cc)
message_is (Granted m b) (Changed c) e = let never : false ≡ true = e in absurd (cc)
message_is (Granted m b) (Vote n c y) e = let never : false ≡ true = e in absurd (cc)
message_is (Granted m b) (Confirm n r) e = let never : false ≡ true = e in absurd (cc)
message_is (Activate b v) (Live n c) e = let never : false ≡ true = e in absurd (cc)
message_is (Activate b v) (Made n c) e = let never : false ≡ true = e in absurd (cc)
message_is (Activate b v) (Granted n c) e = let never : false ≡ true = e in absurd (cc)
message_is (Activate b v) (Activate c w) e =
    (let p = and_both (b == c) (v == w) e in λ i. Activate (same_number b c p.0 i) (same_number v w p.1 i))
message_is (Activate b v) (Activated c w) e = let never : false ≡ true = e in absurd (cc)
message_is (Activate b v) (Recorded c) e = let never : false ≡ true = e in absurd (cc)
message_is (Activate b v) (Invoke r) e = let never : false ≡ true = e in absurd (cc)
message_is (Activate b v) (Invoked r) e = let never : false ≡ true = e in absurd (cc)
message_is (Activate b v) (Refused r) e = let never : false ≡ true = e in absurd (cc)
message_is (Activate b v) (Changed c) e = let never : false ≡ true = e in absurd (cc)
message_is (Activate b v) (Vote n c y) e = let never : false ≡ true = e in absurd (cc)
message_is (Activate b v) (Confirm n r) e = let never : false ≡ true = e in absurd (cc)
message_is (Activated b v) (Live n c) e = let never : false ≡ true = e in absurd (cc)
message_is (Activated b v) (Made n c) e = let never : false ≡ true = e in absurd (cc)
message_is (Activated b v) (Granted n c) e = let never : false ≡ true = e in absurd (cc)
message_is (Activated b v) (Activate c w) e = let never : false ≡ true = e in absurd (cc)
message_is (Activated b v) (Activated c w) e =
    (let p = and_both (b == c) (v == w) e in λ i. Activated (same_number b c p.0 i) (same_number v w p.1 i))
message_is (Activated b v) (Recorded c) e = let never : false ≡ true = e in absurd (cc)
message_is (Activated b v) (Invoke r) e = let never : false ≡ true = e in absurd (cc)
message_is (Activated b v) (Invoked r) e = let never : false ≡ true = e in absurd (cc)
message_is (Activated b v) (Refused r) e = let never : false ≡ true = e in absurd (cc)
message_is (Activated b v) (Changed c) e = let never : false ≡ true = e in absurd (cc)
message_is (Activated b v) (Vote n c y) e = let never : false ≡ true = e in absurd (cc)
message_is (Activated b v) (Confirm n r) e = let never : false ≡ true = e in absurd (cc)
message_is (Recorded b) (Live n c) e = let never : false ≡ true = e in absurd (cc)
message_is (Recorded b) (Made n c) e = let never : false ≡ true = e in absurd (cc)
message_is (Recorded b) (Granted n c) e = let never : false ≡ true = e in absurd (cc)
message_is (Recorded b) (Activate c w) e = let never : false ≡ true = e in absurd (cc)
message_is (Recorded b) (Activated c w) e = let never : false ≡ true = e in absurd (cc)
message_is (Recorded b) (Recorded c) e = ap Recorded (same_number b c e)
message_is (Recorded b) (Invoke r) e = let never : false ≡ true = e in absurd (cc)
message_is (Recorded b) (Invoked r) e = let never : false ≡ true = e in absurd (cc)
message_is (Recorded b) (Refused r) e = let never : false ≡ true = e in absurd (cc)
message_is (Recorded b) (Changed c) e = let never : false ≡ true = e in absurd (cc)
message_is (Recorded b) (Vote n c y) e = let never : false ≡ true = e in absurd (cc)
message_is (Recorded b) (Confirm n r) e = let never : false ≡ true = e in absurd (cc)
message_is (Invoke q) (Live n c) e = let never : false ≡ true = e in absurd (cc)
message_is (Invoke q) (Made n c) e = let never : false ≡ true = e in absurd (cc)
message_is (Invoke q) (Granted n c) e = let never : false ≡ true = e in absurd (cc)
message_is (Invoke q) (Activate c w) e = let never : false ≡ true = e in absurd (cc)
message_is (Invoke q) (Activated c w) e = let never : false ≡ true = e in absurd (cc)
message_is (Invoke q) (Recorded c) e = let never : false ≡ true = e in absurd (cc)
message_is (Invoke q) (Invoke r) e = ap Invoke (request_is q r e)
message_is (Invoke q) (Invoked r) e = let never : false ≡ true = e in absurd (cc)
message_is (Invoke q) (Refused r) e = let never : false ≡ true = e in absurd (cc)
message_is (Invoke q) (Changed c) e = let never : false ≡ true = e in absurd (cc)
message_is (Invoke q) (Vote n c y) e = let never : false ≡ true = e in absurd (cc)
message_is (Invoke q) (Confirm n r) e = let never : false ≡ true = e in absurd (cc)
message_is (Invoked q) (Live n c) e = let never : false ≡ true = e in absurd (cc)
message_is (Invoked q) (Made n c) e = let never : false ≡ true = e in absurd (cc)
message_is (Invoked q) (Granted n c) e = let never : false ≡ true = e in absurd (cc)
message_is (Invoked q) (Activate c w) e = let never : false ≡ true = e in absurd (cc)
message_is (Invoked q) (Activated c w) e = let never : false ≡ true = e in absurd (cc)
message_is (Invoked q) (Recorded c) e = let never : false ≡ true = e in absurd (cc)
message_is (Invoked q) (Invoke r) e = let never : false ≡ true = e in absurd (cc)
message_is (Invoked q) (Invoked r) e = (let a = and_both (same_request q.request r.request) ((q.place == r.place) && ((q.sees == r.sees)
    && (q.gives == r.gives))) e in let b = and_both (q.place == r.place) ((q.sees == r.sees) && (q.gives == r.gives)) a.1 in
    let c = and_both (q.sees == r.sees) (q.gives == r.gives) b.1 in λ i. Invoked (record {
      request = request_is q.request r.request a.0 i;
      place = same_number q.place r.place b.0 i;
      sees = same_number q.sees r.sees c.0 i;
      gives = same_number q.gives r.gives c.1 i;
    }))
message_is (Invoked q) (Refused r) e = let never : false ≡ true = e in absurd (cc)
message_is (Invoked q) (Changed c) e = let never : false ≡ true = e in absurd (cc)
message_is (Invoked q) (Vote n c y) e = let never : false ≡ true = e in absurd (cc)
message_is (Invoked q) (Confirm n r) e = let never : false ≡ true = e in absurd (cc)
message_is (Refused q) (Live n c) e = let never : false ≡ true = e in absurd (cc)
message_is (Refused q) (Made n c) e = let never : false ≡ true = e in absurd (cc)
message_is (Refused q) (Granted n c) e = let never : false ≡ true = e in absurd (cc)
message_is (Refused q) (Activate c w) e = let never : false ≡ true = e in absurd (cc)
message_is (Refused q) (Activated c w) e = let never : false ≡ true = e in absurd (cc)
message_is (Refused q) (Recorded c) e = let never : false ≡ true = e in absurd (cc)
message_is (Refused q) (Invoke r) e = let never : false ≡ true = e in absurd (cc)
message_is (Refused q) (Invoked r) e = let never : false ≡ true = e in absurd (cc)
message_is (Refused q) (Refused r) e = ap Refused (request_is q r e)
message_is (Refused q) (Changed c) e = let never : false ≡ true = e in absurd (cc)
message_is (Refused q) (Vote n c y) e = let never : false ≡ true = e in absurd (cc)
message_is (Refused q) (Confirm n r) e = let never : false ≡ true = e in absurd (cc)
message_is (Changed b) (Live n c) e = let never : false ≡ true = e in absurd (cc)
message_is (Changed b) (Made n c) e = let never : false ≡ true = e in absurd (cc)
message_is (Changed b) (Granted n c) e = let never : false ≡ true = e in absurd (cc)
message_is (Changed b) (Activate c w) e = let never : false ≡ true = e in absurd (cc)
message_is (Changed b) (Activated c w) e = let never : false ≡ true = e in absurd (cc)
message_is (Changed b) (Recorded c) e = let never : false ≡ true = e in absurd (cc)
message_is (Changed b) (Invoke r) e = let never : false ≡ true = e in absurd (cc)
message_is (Changed b) (Invoked r) e = let never : false ≡ true = e in absurd (cc)
message_is (Changed b) (Refused r) e = let never : false ≡ true = e in absurd (cc)
message_is (Changed b) (Changed c) e = ap Changed (same_number b c e)
message_is (Changed b) (Vote n c y) e = let never : false ≡ true = e in absurd (cc)
message_is (Changed b) (Confirm n r) e = let never : false ≡ true = e in absurd (cc)
message_is (Vote m b x) (Live n c) e = let never : false ≡ true = e in absurd (cc)
message_is (Vote m b x) (Made n c) e = let never : false ≡ true = e in absurd (cc)
message_is (Vote m b x) (Granted n c) e = let never : false ≡ true = e in absurd (cc)
message_is (Vote m b x) (Activate c w) e = let never : false ≡ true = e in absurd (cc)
message_is (Vote m b x) (Activated c w) e = let never : false ≡ true = e in absurd (cc)
message_is (Vote m b x) (Recorded c) e = let never : false ≡ true = e in absurd (cc)
message_is (Vote m b x) (Invoke r) e = let never : false ≡ true = e in absurd (cc)
message_is (Vote m b x) (Invoked r) e = let never : false ≡ true = e in absurd (cc)
message_is (Vote m b x) (Refused r) e = let never : false ≡ true = e in absurd (cc)
message_is (Vote m b x) (Changed c) e = let never : false ≡ true = e in absurd (cc)
message_is (Vote m b x) (Vote n c y) e = (let a = and_both (same m n) ((b == c) && (x == y)) e in let d = and_both (b == c) (x == y) a.1 in
    λ i. Vote (same_is m n a.0 i) (same_number b c d.0 i) (same_number x y d.1 i))
message_is (Vote m b x) (Confirm n r) e = let never : false ≡ true = e in absurd (cc)
message_is (Confirm m q) (Live n c) e = let never : false ≡ true = e in absurd (cc)
message_is (Confirm m q) (Made n c) e = let never : false ≡ true = e in absurd (cc)
message_is (Confirm m q) (Granted n c) e = let never : false ≡ true = e in absurd (cc)
message_is (Confirm m q) (Activate c w) e = let never : false ≡ true = e in absurd (cc)
message_is (Confirm m q) (Activated c w) e = let never : false ≡ true = e in absurd (cc)
message_is (Confirm m q) (Recorded c) e = let never : false ≡ true = e in absurd (cc)
message_is (Confirm m q) (Invoke r) e = let never : false ≡ true = e in absurd (cc)
message_is (Confirm m q) (Invoked r) e = let never : false ≡ true = e in absurd (cc)
message_is (Confirm m q) (Refused r) e = let never : false ≡ true = e in absurd (cc)
message_is (Confirm m q) (Changed c) e = let never : false ≡ true = e in absurd (cc)
message_is (Confirm m q) (Vote n c y) e = let never : false ≡ true = e in absurd (cc)
message_is (Confirm m q) (Confirm n r) e = two m n q r Confirm e

pub has_is : (m : Message) (ms : List Message) → has m ms ≡ true → In m ms
has_is m ms e = let p = some_in (same_message m) ms e in subst (λ (x : Message). In x ms) (sym (message_is m p.0 p.2)) p.1

-- The last committed value.

abbrev pub last_test : State → ℕ → List Call → Bool
last_test s v [] = s.initial == v
last_test s v (c ∷ cs) = cond (c.write && survives s c.act) (c.gives == v) (last_test s v cs)

pub last_is : (s : State) (v : ℕ) (cs : List Call) → last_test s v cs ≡ true → IsLast s v cs
last_is s v [] e = none (same_number s.initial v e)
last_is s v (c ∷ cs) e = by (last_is s v cs) (c.write && survives s c.act) refl e
  where
    by : (last_test s v cs ≡ true → IsLast s v cs) → (b : Bool) → (c.write && survives s c.act) ≡ b →
        cond b (c.gives == v) (last_test s v cs) ≡ true → IsLast s v (c ∷ cs)
    by ih true t q = let p = and_both c.write (survives s c.act) t in newest c p.0 (survives_is s c.act p.1) (same_number c.gives v q)
    by ih false t q =
        older c (λ w f. let z : (c.write && survives s c.act) ≡ true = λ i. w i && is_survives s c.act f i in differ z t) (ih q)
