-- What is seen where naming's node has stopped comes about without the stop too: then naming is as it was when it last worked, and all
-- other nodes are as they are.
use Rattle.arj_law_parts.proofs.Words
use Words.{◌≡◌, ◌⊎◌, ◌≤◌, ◌<◌, ◌∙◌, ◌+◌, ◌==◌, ◌++◌, ℕ, Bool, true, false, if◌then◌else◌, List, [], ◌∷◌, length, Option, Some, None, refl}
use Words.{sym, ap}
use Words.{subst, inl, inr, arith, append-nil, append_assoc, is_some, eqb-true, AllByRecursion, Body, Header, Line, Start, numbered}
use Words.{Disk, Do, Effect, Say, Send, Stop, stopped, worked, Parts, Node, Seen, with_coord, begin_action, parent_of, is_serial, acts}
use Words.{again_all, tick_outs, restart_outs, parts_in, node_by, see, world_from, IsFormed, at_place, insert_entry, label_cmp, Label}
use Words.{Coord}
use Words.{Did}
use Words.body
use Rattle.arj_promise.specs.Runs.{HeaderFits}
use Rattle.arj_law_parts.proofs.Terms.{halted}
use Rattle.arj_law_parts.proofs.moves.{Firsts.first_stands, Happens.keeps_asked}
use Rattle.arj_law_parts.specs.moves.Keeps.{MayGive, label_at}
use Rattle.arj_law_parts.specs.moves.Seen.{In, at, down, given, posted, said, up}
use Rattle.arj_protocol.specs.World.{Labelled}
use Rattle.arj_law_runs.proofs.Terms.{disk_by}
use Rattle.arj_law_runs.proofs.follow.Uids.{KnowsNext, next_keep}
use Rattle.arj_law_runs.proofs.kept.{Starts.first_at, Walked.same_number}
use Rattle.arj_law_runs.specs.calls.Bindings.{HasFewBindings, bindings_made}
use Rattle.arj_law_serial.proofs.joint.{Showing.first_place, Showing.node_there}
use Rattle.arj_law_serial.specs.joint.Fit.{OpsFit}
use Rattle.arj_model.specs.Actions.{Act, acts_after, acts_from}
use Rattle.arj_model.specs.Refusals.{incarnation}
use Rattle.arj_law_cause.specs.rows.Early.{IsEarly}
use Rattle.arj_law_cause.proofs.confirm.Reached
use Reached.{AtFirst, ByAct, ByBegin, ByLines, ByMessage, ByRestart, ByStop, ByTick, OnWay, Reached, reached_has}
use Rattle.arj_law_cause.proofs.confirm.Works.{IsLight, WorksFirst, acts_first, message_first, restart_first, tick_first}
use Rattle.arj_law_cause.proofs.waits.commits.Serving.{AreStill}

-- ---- lines that were left out

-- the first lines are the second ones, but for some that were left out
abbrev pub AreLeft : List Line → List Line → Type 0
AreLeft xs [] = xs ≡ []
AreLeft xs (l ∷ ys) = AreLeft xs ys ⊎ ((zs : List Line) × (xs ≡ l ∷ zs) × AreLeft zs ys)

none_left : (ys : List Line) → AreLeft [] ys
none_left [] = refl
none_left (l ∷ ys) = inl (none_left ys)

all_left : (ys : List Line) → AreLeft ys ys
all_left [] = refl
all_left (l ∷ ys) = inr (ys, refl, all_left ys)

left_more : (xs ys zs : List Line) → AreLeft xs ys → AreLeft (xs ++ zs) (ys ++ zs)
left_more xs [] zs is = subst (λ ws. AreLeft (ws ++ zs) zs) (sym is) (all_left zs)
left_more xs (l ∷ ys) zs (inl out) = inl (left_more xs ys zs out)
left_more xs (l ∷ ys) zs (inr same) = inr (same.0 ++ zs, (λ i. same.1 i ++ zs), left_more same.0 ys zs same.2)

left_out : (xs ys zs : List Line) → AreLeft xs ys → AreLeft xs (ys ++ zs)
left_out xs [] zs is = subst (λ ws. AreLeft ws zs) (sym is) (none_left zs)
left_out xs (l ∷ ys) zs (inl out) = inl (left_out xs ys zs out)
left_out xs (l ∷ ys) zs (inr same) = inr (same.0, same.1, left_out same.0 ys zs same.2)

pub left_behind : (front xs ys : List Line) → AreLeft xs ys → AreLeft (front ++ xs) (front ++ ys)
left_behind [] xs ys left = left
left_behind (l ∷ front) xs ys left = inr (front ++ xs, refl, left_behind front xs ys left)

-- what is left of early lines is early
module _ where
  made_less : (xs ys : List Line) → AreLeft xs ys → bindings_made xs ≤ bindings_made ys
  made_less xs [] is = none (bindings_made xs) (ap bindings_made is)
    where
      none : (n : ℕ) → n ≡ 0 → n ≤ 0
      none n same = omega (arith, same)
  made_less xs (l ∷ ys) (inl out) = more (bindings_made xs) (bindings_made ys) (bindings_made (l ∷ [])) (bindings_made (l ∷ ys))
      (one l ys) (made_less xs ys out)
    where
      one : (m : Line) (ms : List Line) → bindings_made (m ∷ ms) ≡ bindings_made (m ∷ []) + bindings_made ms
      one m ms = sum (Rattle.arj_law_runs.specs.calls.Bindings.bound_by m.body) (bindings_made ms)
        where
          sum : (a b : ℕ) → a + b ≡ (a + 0) + b
          sum a b = omega arith

      more : (a b c d : ℕ) → d ≡ c + b → a ≤ b → a ≤ d
      more a b c d same le = omega (arith, same, le)
  made_less xs (l ∷ ys) (inr same) = subst (λ ws. bindings_made ws ≤ bindings_made (l ∷ ys)) (sym same.1)
      (both (Rattle.arj_law_runs.specs.calls.Bindings.bound_by l.body) (bindings_made same.0) (bindings_made ys)
      (made_less same.0 ys same.2))
    where
      both : (a b c : ℕ) → b ≤ c → a + b ≤ a + c
      both a b c le = omega (arith, le)

  acts_less : (us vs : List Act) (xs ys : List Line) → length us ≤ length vs → AreLeft xs ys →
      length (acts_from us xs) ≤ length (acts_from vs ys)
  acts_less us vs xs [] le is = subst (λ ws. length (acts_from us ws) ≤ length vs) (sym is) le
  acts_less us vs xs (l ∷ ys) le (inl out) = acts_less us (acts_after vs l.body) xs ys (far le (grown l.body)) out
    where
      far : {a b c : ℕ} → a ≤ b → b ≤ c → a ≤ c
      far low high = omega (arith, low, high)

      grown : (b : Body) → length vs ≤ length (acts_after vs b)
      grown (body.Began m k u p) = omega arith
      grown b = omega arith
  acts_less us vs xs (l ∷ ys) le (inr same) = subst (λ ws. length (acts_from us ws) ≤ length (acts_from (acts_after vs l.body) ys))
      (sym same.1) (acts_less (acts_after us l.body) (acts_after vs l.body) same.0 ys (both l.body) same.2)
    where
      more : (a b : ℕ) → a ≤ b → a + 1 ≤ b + 1
      more a b less = omega (arith, less)

      both : (b : Body) → length (acts_after us b) ≤ length (acts_after vs b)
      both (body.Began m k u p) = up (length us) (length vs) le
        where
          up : (a b : ℕ) → a ≤ b → Words.suc a ≤ Words.suc b
          up a b less = omega (arith, less)
      both b = le

  fit_less : (x : ℕ) (xs ys : List Line) → AreLeft xs ys → OpsFit x ys → OpsFit x xs
  fit_less x xs [] is fit = subst (OpsFit x) (sym is) tt
  fit_less x xs (l ∷ ys) (inl out) fit = fit_less x xs ys out fit.1
  fit_less x xs (l ∷ ys) (inr same) fit = subst (OpsFit x) (sym same.1) (fit.0, fit_less x same.0 ys same.2 fit.1)

  pub early_less : (xs ys : List Line) → AreLeft xs ys → IsEarly ys → IsEarly xs
  early_less xs ys left early = record {
    few = below (bindings_made xs) (bindings_made ys) (made_less xs ys left) early.few;
    short = far (acts_less [] [] xs ys (omega arith) left) early.short;
    fit = λ x. fit_less x xs ys left (early.fit x);
  }
    where
      below : (a b : ℕ) → a ≤ b → b < 4294967295 → a < 4294967295
      below a b le less = omega (arith, le, less)

      far : {a b c : ℕ} → a ≤ b → b ≤ c → a ≤ c
      far low high = omega (arith, low, high)

-- ---- what is seen beside a stop

-- Behind these lines some lines of the other one are left out; beside nodes the rest is the same.
pub record IsAs (N M : Seen) (front : List Line) : Type 0 where
  pub start : N.start ≡ M.start
  pub sent : N.sent ≡ M.sent
  pub labels : N.labels ≡ M.labels
  pub gone : List Line
  pub rest : List Line
  pub lines : M.lines ≡ front ++ gone
  pub theirs : N.lines ≡ front ++ rest
  pub left : AreLeft rest gone

-- naming's node was up behind these lines, in this incarnation; or it never was
abbrev pub IsLife : Start → List Line → Node → Type 0
IsLife st front n = ((t : Parts) × (n.live ≡ Some t) × (incarnation st front 1 ≡ (let d = n.disk in d.inc)))
    ⊎ ((n.live ≡ None) × (st.up 1 ≡ false) × ((let d = n.disk in d.inc) ≡ st.incs 1 + 1))

-- The same was seen with naming's node as it was in its last life, in which it was up, if it ever was.
pub record IsAwake (hd : Header) (M : Seen) : Type 0 where
  pub seen : Seen
  pub reached : Reached hd seen
  pub node : Node
  pub there : seen.nodes 1 ≡ Some node
  pub front : List Line
  pub like : IsAs seen M front
  pub others : (j : ℕ) → (j == 1) ≡ false → seen.nodes j ≡ M.nodes j
  pub own : (n : Node) (t : Parts) → M.nodes 1 ≡ Some n → n.live ≡ Some t → seen.nodes 1 ≡ M.nodes 1
  pub life : IsLife M.start front node

as_said : (e : ℕ) (bs : List Body) (N M : Seen) (front : List Line) → IsAs N M front → IsAs (said e bs N) (said e bs M) front
as_said e bs N M front h = record {
  start = h.start;
  sent = h.sent;
  labels = h.labels;
  gone = h.gone ++ numbered e bs;
  rest = h.rest ++ numbered e bs;
  lines = (λ i. h.lines i ++ numbered e bs) ∙ append_assoc front h.gone (numbered e bs);
  theirs = (λ i. h.theirs i ++ numbered e bs) ∙ append_assoc front h.rest (numbered e bs);
  left = left_more h.rest h.gone (numbered e bs) h.left;
}

as_gone : (more : List Line) (N M Z : Seen) (front : List Line) → Z.start ≡ M.start → Z.sent ≡ M.sent → Z.labels ≡ M.labels →
    Z.lines ≡ M.lines ++ more → IsAs N M front → IsAs N Z front
as_gone more N M Z front start sent labels lines h = record {
  start = h.start ∙ sym start;
  sent = h.sent ∙ sym sent;
  labels = h.labels ∙ sym labels;
  gone = h.gone ++ more;
  rest = h.rest;
  lines = lines ∙ (λ i. h.lines i ++ more) ∙ append_assoc front h.gone more;
  theirs = h.theirs;
  left = left_out h.rest h.gone more h.left;
}

flip : (m n : ℕ) → (m == n) ≡ false → (n == m) ≡ false
flip m n off = by (n == m) refl
  where
    by : (b : Bool) → (n == m) ≡ b → b ≡ false
    by false e = refl
    by true e = let no_way : true ≡ false = sym (ap (λ z. m == z) (eqb-true n m e) ∙ same_number m) ∙ off in absurd (cc no_way)

-- ---- another node goes on

module _ (k : ℕ) (off : (k == 1) ≡ false) (front : List Line) (n : Node) where
  abbrev Beside : Seen → Seen → Type 0
  Beside N M = IsAs N M front × ((j : ℕ) → (j == 1) ≡ false → (j == k) ≡ false → N.nodes j ≡ M.nodes j) × (N.nodes 1 ≡ Some n)

  abbrev AllBeside : Seen → Seen → Type 0
  AllBeside N M = IsAs N M front × ((j : ℕ) → (j == 1) ≡ false → N.nodes j ≡ M.nodes j) × (N.nodes 1 ≡ Some n)

  put_both : (c : Disk) (live : Option Parts) (N M : Seen) → Beside N M → AllBeside (at k c live N) (at k c live M)
  put_both c live N M h = (
    record {
      start = h.0.start;
      sent = h.0.sent;
      labels = h.0.labels;
      gone = h.0.gone;
      rest = h.0.rest;
      lines = h.0.lines;
      theirs = h.0.theirs;
      left = h.0.left;
    },
    (λ j other. each j other (j == k) refl),
    (λ i. if flip k 1 off i then Some (record { number = k; disk = c; live = live }) else N.nodes 1) ∙ h.2,
  )
    where
      each : (j : ℕ) → (j == 1) ≡ false → (b : Bool) → (j == k) ≡ b →
          (if j == k then Some (record { number = k; disk = c; live = live }) else N.nodes j)
          ≡ (if j == k then Some (record { number = k; disk = c; live = live }) else M.nodes j)
      each j other true e = (λ i. if e i then Some (record { number = k; disk = c; live = live }) else N.nodes j)
          ∙ sym (λ i. if e i then Some (record { number = k; disk = c; live = live }) else M.nodes j)
      each j other false e = (λ i. if e i then Some (record { number = k; disk = c; live = live }) else N.nodes j) ∙ h.1 j other e
          ∙ sym (λ i. if e i then Some (record { number = k; disk = c; live = live }) else M.nodes j)

  said_both : (e : ℕ) (bs : List Body) (N M : Seen) → AllBeside N M → AllBeside (said e bs N) (said e bs M)
  said_both e bs N M h = (as_said e bs N M front h.0, h.1, h.2)

  mirror : (e : ℕ) (es : List Effect) (v : Parts) (d : Disk) (L M N : Seen) → Beside L M → OnWay e k es v d M N →
      (Z : Seen) × OnWay e k es v d L Z × AllBeside Z N
  mirror e [] v d L M N h way = (up k d v L, refl, subst (AllBeside (up k d v L)) way (put_both d (Some v) L M h))
  mirror e (Do w ∷ es) v d L M N h (inl stop) = (
    halted e k (stopped stop.0 w d) L,
    inl (stop.0, refl),
    subst (AllBeside (halted e k (stopped stop.0 w d) L)) stop.1
        (said_both e (body.Halted k ∷ []) (down k (stopped stop.0 w d) L) (down k (stopped stop.0 w d) M)
        (put_both (stopped stop.0 w d) None L M h)),
  )
  mirror e (Do w ∷ es) v d L M N h (inr way) = let z = mirror e es v (worked w d) L M N h way in (z.0, inr z.1, z.2)
  mirror e (Say b ∷ es) v d L M N h way =
      mirror e es v d (said e (b ∷ []) L) (said e (b ∷ []) M) N (as_said e (b ∷ []) L M front h.0, h.1, h.2) way
  mirror e (Send to m ∷ es) v d L M N h way =
      let z = mirror e es v d (said e way.0 (posted (record { from = k; to = to; message = m }) L))
      (said e way.0 (posted (record { from = k; to = to; message = m }) M)) N (
        as_said e way.0 (posted (record { from = k; to = to; message = m }) L) (posted (record { from = k; to = to; message = m }) M) front
            (record {
              start = h.0.start;
              sent = λ i. record { from = k; to = to; message = m } ∷ h.0.sent i;
              labels = h.0.labels;
              gone = h.0.gone;
              rest = h.0.rest;
              lines = h.0.lines;
              theirs = h.0.theirs;
              left = h.0.left;
            }),
        h.1,
        h.2,
      ) way.2 in
      (z.0, (way.0, way.1, z.1), z.2)

-- ---- naming's own node

-- the node has stopped, and only lines came
pub record HasFallen (k : ℕ) (M N : Seen) : Type 0 where
  pub start : N.start ≡ M.start
  pub sent : N.sent ≡ M.sent
  pub labels : N.labels ≡ M.labels
  pub more : List Line
  pub lines : N.lines ≡ M.lines ++ more
  pub others : (j : ℕ) → (j == k) ≡ false → N.nodes j ≡ M.nodes j
  pub disk : Disk
  pub down : N.nodes k ≡ Some (record { number = k; disk = disk; live = None })

-- or it is up
abbrev pub IsUpNow : ℕ → Parts → Seen → Type 0
IsUpNow k v N = (c : Disk) × (N.nodes k ≡ Some (record { number = k; disk = c; live = Some v }))

up_now : (k : ℕ) (d : Disk) (live : Option Parts) (M : Seen) → (at k d live M).nodes k ≡ Some (record { number = k; disk = d; live = live })
up_now k d live M = λ i. if same_number k i then Some (record { number = k; disk = d; live = live }) else M.nodes k

at_other : (k : ℕ) (d : Disk) (live : Option Parts) (M : Seen) (j : ℕ) → (j == k) ≡ false → (at k d live M).nodes j ≡ M.nodes j
at_other k d live M j off = λ i. if off i then Some (record { number = k; disk = d; live = live }) else M.nodes j

light_way : (e k : ℕ) (es : List Effect) (v : Parts) (d : Disk) (M N : Seen) → AreStill IsLight es → OnWay e k es v d M N → IsUpNow k v N
light_way e k [] v d M N all way = (d, ap (λ (Z : Seen). Z.nodes k) (sym way) ∙ up_now k d (Some v) M)
light_way e k (Do w ∷ es) v d M N all way = absurd all.0
light_way e k (Say b ∷ es) v d M N all way = light_way e k es v d (said e (b ∷ []) M) N all.1 way
light_way e k (Send to m ∷ es) v d M N all way =
    light_way e k es v d (said e way.0 (posted (record { from = k; to = to; message = m }) M)) N all.1 way.2

fallen_said : (k e : ℕ) (b : Body) (M N : Seen) → HasFallen k (said e (b ∷ []) M) N → HasFallen k M N
fallen_said k e b M N h = record {
  start = h.start;
  sent = h.sent;
  labels = h.labels;
  more = record { event = e; body = b } ∷ h.more;
  lines = h.lines ∙ append_assoc M.lines (record { event = e; body = b } ∷ []) h.more;
  others = h.others;
  disk = h.disk;
  down = h.down;
}

own_way : (e k : ℕ) (es : List Effect) (v : Parts) (d : Disk) (M N : Seen) → WorksFirst es → OnWay e k es v d M N →
    IsUpNow k v N ⊎ HasFallen k M N
own_way e k [] v d M N first way = inl (light_way e k [] v d M N tt way)
own_way e k (Do w ∷ es) v d M N first (inl stop) = inr (subst (HasFallen k M) stop.1 (record {
  start = refl;
  sent = refl;
  labels = refl;
  more = numbered e (body.Halted k ∷ []);
  lines = refl;
  others = at_other k (stopped stop.0 w d) None M;
  disk = stopped stop.0 w d;
  down = up_now k (stopped stop.0 w d) None M;
}))
own_way e k (Do w ∷ es) v d M N first (inr way) = own_way e k es v (worked w d) M N first way
own_way e k (Say b ∷ es) v d M N first way = by (own_way e k es v d (said e (b ∷ []) M) N first way)
  where
    by : IsUpNow k v N ⊎ HasFallen k (said e (b ∷ []) M) N → IsUpNow k v N ⊎ HasFallen k M N
    by (inl it) = inl it
    by (inr fallen) = inr (fallen_said k e b M N fallen)
own_way e k (Send to m ∷ es) v d M N first way =
    inl (light_way e k es v d (said e way.0 (posted (record { from = k; to = to; message = m }) M)) N first way.2)

-- ---- whatever is reached

module _ (hd : Header) (form : HeaderFits hd) where
  next : (M : Seen) → Reached hd M → KnowsNext M
  next M r = reached_has hd KnowsNext (keeps_asked hd KnowsNext (next_keep hd)) M r

  -- where the node is up nothing is left out
  stays : (M : Seen) → Reached hd M → (n : Node) (t : Parts) → M.nodes 1 ≡ Some n → n.live ≡ Some t → IsAwake hd M
  stays M r n t there live = record {
    seen = M;
    reached = r;
    node = n;
    there = there;
    front = M.lines;
    like = record {
      start = refl;
      sent = refl;
      labels = refl;
      gone = [];
      rest = [];
      lines = sym (append-nil M.lines);
      theirs = sym (append-nil M.lines);
      left = refl;
    };
    others = λ j other. refl;
    own = λ m v here up_it. refl;
    life = inl (t, live, (let q = (next M r).1 1 n there in q.1 t live).0);
  }

  none_up : {P : Type 0} (n : Node) (t : Parts) → n.live ≡ None → n.live ≡ Some t → P
  none_up n t down live = let no_way : ◌≡◌ {A = Option Parts} None (Some t) = sym down ∙ live in absurd (cc no_way)

  -- the node stops
  falls : (k : ℕ) (d : Disk) (t : Parts) (L N : Seen) → k ≡ 1 → Reached hd (up k d t L) → HasFallen k L N → IsAwake hd N
  falls k d t L N one r h = record {
    seen = up k d t L;
    reached = r;
    node = record { number = k; disk = d; live = Some t };
    there = there;
    front = L.lines;
    like = record {
      start = sym h.start;
      sent = sym h.sent;
      labels = sym h.labels;
      gone = h.more;
      rest = [];
      lines = h.lines;
      theirs = sym (append-nil L.lines);
      left = none_left h.more;
    };
    others = λ j other. at_other k d (Some t) L j (ap (λ m. j == m) one ∙ other) ∙ sym (h.others j (ap (λ m. j == m) one ∙ other));
    own = λ n v here live. none_up n v
        (ap (λ (m : Node). m.live) (some_is (sym here ∙ ap N.nodes (sym one) ∙ h.down))) live;
    life = inl (
      t,
      refl,
      ap (λ st. incarnation st L.lines 1) h.start
          ∙ (let q = (next (up k d t L) r).1 1 (record { number = k; disk = d; live = Some t }) there in q.1 t refl).0,
    );
  }
    where
      there : (up k d t L).nodes 1 ≡ Some (record { number = k; disk = d; live = Some t })
      there = ap (up k d t L).nodes (sym one) ∙ up_now k d (Some t) L

      some_is : {A : Type 0} {a b : A} → Some a ≡ Some b → a ≡ b
      some_is {A} {a} {b} is = let z : ◌≡◌ {A = Option A} (Some a) (Some b) = is in cc

  -- it was down, and stops again
  again : (k : ℕ) (d : Disk) (L N : Seen) → k ≡ 1 → IsAwake hd (down k d L) → HasFallen k L N → IsAwake hd N
  again k d L N one A h = record {
    seen = A.seen;
    reached = A.reached;
    node = A.node;
    there = A.there;
    front = A.front;
    like = as_gone h.more A.seen (down k d L) N A.front h.start h.sent h.labels h.lines A.like;
    others = λ j other. A.others j other ∙ at_other k d None L j (ap (λ m. j == m) one ∙ other)
        ∙ sym (h.others j (ap (λ m. j == m) one ∙ other));
    own = λ n v here live. none_up n v
        (ap (λ (m : Node). m.live) (some_is (sym here ∙ ap N.nodes (sym one) ∙ h.down))) live;
    life = subst (λ st. IsLife st A.front A.node) (sym h.start) A.life;
  }
    where
      some_is : {A : Type 0} {a b : A} → Some a ≡ Some b → a ≡ b
      some_is {A} {a} {b} is = let z : ◌≡◌ {A = Option A} (Some a) (Some b) = is in cc

  -- labels may have been given before another node goes on
  abbrev relabelled : (List (Label × Labelled) → List (Label × Labelled)) → Seen → Seen
  relabelled F M = record M { labels = F M.labels }

  module _ (k : ℕ) (d : Disk) (live : Option Parts) (L : Seen) (off : (k == 1) ≡ false) (A : IsAwake hd (at k d live L)) where
    as_there : IsAs A.seen L A.front
    as_there = record {
      start = A.like.start;
      sent = A.like.sent;
      labels = A.like.labels;
      gone = A.like.gone;
      rest = A.like.rest;
      lines = A.like.lines;
      theirs = A.like.theirs;
      left = A.like.left;
    }

    its_others : (j : ℕ) → (j == 1) ≡ false → (j == k) ≡ false → A.seen.nodes j ≡ L.nodes j
    its_others j other apart = A.others j other ∙ at_other k d live L j apart

    -- the node is there as it is
    stands : at k d live A.seen ≡ A.seen
    stands = λ i. record A.seen { nodes = λ j. each j (j == k) refl i }
      where
        each : (j : ℕ) (b : Bool) → (j == k) ≡ b →
            (if j == k then Some (record { number = k; disk = d; live = live }) else A.seen.nodes j) ≡ A.seen.nodes j
        each j true e = (λ i. if e i then Some (record { number = k; disk = d; live = live }) else A.seen.nodes j)
            ∙ sym (up_now k d live L) ∙ sym (A.others k off) ∙ ap A.seen.nodes (sym (eqb-true j k e))
        each j false e = λ i. if e i then Some (record { number = k; disk = d; live = live }) else A.seen.nodes j

    its_reached : Reached hd (at k d live A.seen)
    its_reached = subst (Reached hd) (sym stands) A.reached

    -- so it stays where node 1 does
    own_there : (N Z : Seen) → N.nodes 1 ≡ L.nodes 1 → Z.nodes 1 ≡ Some A.node → (n : Node) (t : Parts) → N.nodes 1 ≡ Some n →
        n.live ≡ Some t → Z.nodes 1 ≡ N.nodes 1
    own_there N Z same now n t here up_it = now ∙ sym A.there
        ∙ A.own n t (at_other k d live L 1 (flip k 1 off) ∙ sym same ∙ here) up_it
        ∙ at_other k d live L 1 (flip k 1 off) ∙ sym same

    -- another node goes on
    beside : (F : List (Label × Labelled) → List (Label × Labelled)) (e : ℕ) (es : List Effect) (v : Parts) (N : Seen) →
        ((W : Seen) → Reached hd (at k d live W) → W.labels ≡ L.labels → W.sent ≡ L.sent → (Z : Seen) →
        OnWay e k es v d (relabelled F W) Z → Reached hd Z) → OnWay e k es v d (relabelled F L) N → IsAwake hd N
    beside F e es v N by way = goes (mirror k off A.front A.node e es v d (relabelled F A.seen) (relabelled F L) N both way)
      where
        both : Beside k off A.front A.node (relabelled F A.seen) (relabelled F L)
        both = (
          record {
            start = A.like.start;
            sent = A.like.sent;
            labels = ap F A.like.labels;
            gone = A.like.gone;
            rest = A.like.rest;
            lines = A.like.lines;
            theirs = A.like.theirs;
            left = A.like.left;
          },
          its_others,
          A.there,
        )

        goes : (Z : Seen) × OnWay e k es v d (relabelled F A.seen) Z × AllBeside k off A.front A.node Z N → IsAwake hd N
        goes z = record {
          seen = z.0;
          reached = by A.seen its_reached A.like.labels A.like.sent z.0 z.1;
          node = A.node;
          there = z.2.2;
          front = A.front;
          like = z.2.0;
          others = z.2.1;
          own = own_there N z.0 (same_first e es v d (relabelled F L) N way) z.2.2;
          life = subst (λ st. IsLife st A.front A.node) (sym (same_start e es v d (relabelled F L) N way)) A.life;
        }
          where
            same_start : (e : ℕ) (es : List Effect) (v : Parts) (d : Disk) (M N : Seen) → OnWay e k es v d M N → N.start ≡ M.start
            same_start e [] v d M N way = ap (λ (Z : Seen). Z.start) (sym way)
            same_start e (Do w ∷ es) v d M N (inl stop) = ap (λ (Z : Seen). Z.start) (sym stop.1)
            same_start e (Do w ∷ es) v d M N (inr way) = same_start e es v (worked w d) M N way
            same_start e (Say b ∷ es) v d M N way = same_start e es v d (said e (b ∷ []) M) N way
            same_start e (Send to m ∷ es) v d M N way =
                same_start e es v d (said e way.0 (posted (record { from = k; to = to; message = m }) M)) N way.2

            same_first : (e : ℕ) (es : List Effect) (v : Parts) (d : Disk) (M N : Seen) → OnWay e k es v d M N → N.nodes 1 ≡ M.nodes 1
            same_first e [] v d M N way = ap (λ (Z : Seen). Z.nodes 1) (sym way) ∙ at_other k d (Some v) M 1 (flip k 1 off)
            same_first e (Do w ∷ es) v d M N (inl stop) = ap (λ (Z : Seen). Z.nodes 1) (sym stop.1)
                ∙ at_other k (stopped stop.0 w d) None M 1 (flip k 1 off)
            same_first e (Do w ∷ es) v d M N (inr way) = same_first e es v (worked w d) M N way
            same_first e (Say b ∷ es) v d M N way = same_first e es v d (said e (b ∷ []) M) N way
            same_first e (Send to m ∷ es) v d M N way =
                same_first e es v d (said e way.0 (posted (record { from = k; to = to; message = m }) M)) N way.2

    -- or stops
    stops_beside : (e : ℕ) → IsAwake hd (halted e k d L)
    stops_beside e = record {
      seen = halted e k d A.seen;
      reached = ByStop e k d live A.seen its_reached;
      node = A.node;
      there = both.2;
      front = A.front;
      like = both.0;
      others = both.1;
      own = own_there (halted e k d L) (halted e k d A.seen) (at_other k d None L 1 (flip k 1 off)) both.2;
      life = A.life;
    }
      where
        both : AllBeside k off A.front A.node (halted e k d A.seen) (halted e k d L)
        both = said_both k off A.front A.node e (body.Halted k ∷ []) (down k d A.seen) (down k d L)
            (put_both k off A.front A.node d None A.seen L (as_there, its_others, A.there))

  -- a node that is up goes on
  goes_on : (e k : ℕ) (es : List Effect) (v : Parts) (d : Disk) (t : Parts) (L N : Seen) → Reached hd (up k d t L) →
      IsAwake hd (up k d t L) → Reached hd N → WorksFirst es → ((W : Seen) → Reached hd (up k d t W) → W.labels ≡ L.labels →
      W.sent ≡ L.sent → (Z : Seen) → OnWay e k es v d W Z → Reached hd Z) → OnWay e k es v d L N → IsAwake hd N
  goes_on e k es v d t L N r A there first by way = one (k == 1) refl
    where
      ups : k ≡ 1 → IsUpNow k v N ⊎ HasFallen k L N → IsAwake hd N
      ups is (inl now) = stays N there (record { number = k; disk = now.0; live = Some v }) v (ap N.nodes (sym is) ∙ now.1) refl
      ups is (inr fallen) = falls k d t L N is r fallen

      one : (b : Bool) → (k == 1) ≡ b → IsAwake hd N
      one true is = ups (eqb-true k 1 is) (own_way e k es v d L N first way)
      one false off = beside k d (Some t) L off A (λ ls. ls) e es v N by way

  -- as a run begins
  begins : (st : Start) (formed : IsFormed hd st) → IsAwake hd (see [] (world_from hd st))
  begins st formed = by n.live refl
    where
      there : (n : Node) × (at_place 1 (let w = world_from hd st in w.nodes) ≡ Some n)
      there = node_there hd [] (world_from hd st) (first_stands hd st) 1 (first_place hd.nodes (let f = form.nodes in f.0))

      n : Node
      n = there.0

      its : node_by hd st 1 ≡ n
      its = first_at hd st 1 n there.1

      no_up : (b : Bool) → (if b then Some (parts_in 1 (st.incs 1 + 1) (disk_by hd st 1)) else None) ≡ None → b ≡ false
      no_up false e = refl
      no_up true e = let no_way : ◌≡◌ {A = Option Parts} (Some (parts_in 1 (st.incs 1 + 1) (disk_by hd st 1))) None = e in absurd (cc no_way)

      by : (o : Option Parts) → n.live ≡ o → IsAwake hd (see [] (world_from hd st))
      by (Some t) live = stays (see [] (world_from hd st)) (AtFirst st formed) n t there.1 live
      by None live = record {
        seen = see [] (world_from hd st);
        reached = AtFirst st formed;
        node = n;
        there = there.1;
        front = [];
        like = record {
          start = refl;
          sent = refl;
          labels = refl;
          gone = [];
          rest = [];
          lines = refl;
          theirs = refl;
          left = refl;
        };
        others = λ j other. refl;
        own = λ m t here up_it. refl;
        life = inr (live, no_up (st.up 1) (ap (λ (z : Node). z.live) its ∙ live), sym (ap (λ (z : Node). let c = z.disk in c.inc) its));
      }

  pub awake : (M : Seen) → Reached hd M → IsAwake hd M
  awake M (AtFirst st formed) = begins st formed
  awake M (ByLines e bs L quiet r) = let A = awake L r in record {
    seen = said e bs A.seen;
    reached = ByLines e bs A.seen quiet A.reached;
    node = A.node;
    there = A.there;
    front = A.front;
    like = as_said e bs A.seen L A.front A.like;
    others = A.others;
    own = A.own;
    life = A.life;
  }
  awake M (ByStop e k d live L r) = one (k == 1) refl (awake (at k d live L) r)
    where
      fallen : HasFallen k L (halted e k d L)
      fallen = record {
        start = refl;
        sent = refl;
        labels = refl;
        more = numbered e (body.Halted k ∷ []);
        lines = refl;
        others = at_other k d None L;
        disk = d;
        down = up_now k d None L;
      }

      by : (o : Option Parts) → k ≡ 1 → Reached hd (at k d o L) → IsAwake hd (at k d o L) → IsAwake hd (halted e k d L)
      by (Some t) is s A = falls k d t L (halted e k d L) is s fallen
      by None is s A = again k d L (halted e k d L) is A fallen

      one : (b : Bool) → (k == 1) ≡ b → IsAwake hd (at k d live L) → IsAwake hd (halted e k d L)
      one true is A = by live (eqb-true k 1 is) r A
      one false off A = stops_beside k d live L off A e
  awake M (ByMessage e k d t v from m outs L N r there meant is way) =
      goes_on e k outs v d t L M r (awake (up k d t L) r) (ByMessage e k d t v from m outs L M r there meant is way)
      (message_first k d t from m v outs is)
      (λ W s labels sent Z w. ByMessage e k d t v from m outs W Z s (subst (In (record { from = from; to = k; message = m })) (sym sent) there)
      meant is w) way
  awake M (ByAct e k d t i L N r is asks free way) =
      let did = acts i d.intents t.coord in
      goes_on e k did.outs (with_coord t did.part) d t L M r (awake (up k d t L) r) (ByAct e k d t i L M r is asks free way)
      (acts_first i d.intents t.coord is) (λ W s labels sent Z w. ByAct e k d t i W Z s is asks free w) way
  awake M (ByBegin e k d t l how parent L N r new may none way) = one (k == 1) refl (awake (up k d t L) r)
    where
      did : Did Coord
      did = begin_action l how parent (parent_of parent t.coord) t.coord

      one : (b : Bool) → (k == 1) ≡ b → IsAwake hd (up k d t L) → IsAwake hd M
      one true is A =
          let now = light_way e k (begin_action l how parent (parent_of parent t.coord) t.coord).outs
          (with_coord t (begin_action l how parent (parent_of parent t.coord) t.coord).part) d
          (given l (record { node = k; serial = is_serial how }) L) M (tt, tt) way in
          stays M (ByBegin e k d t l how parent L M r new may none way)
          (record { number = k; disk = now.0; live = Some (with_coord t (begin_action l how parent (parent_of parent t.coord) t.coord).part) })
          (with_coord t (begin_action l how parent (parent_of parent t.coord) t.coord).part) (ap M.nodes (sym (eqb-true k 1 is)) ∙ now.1) refl
      one false off A = beside k d (Some t) L off A (λ ls. insert_entry label_cmp ls l (record { node = k; serial = is_serial how })) e
          (begin_action l how parent (parent_of parent t.coord) t.coord).outs
          (with_coord t (begin_action l how parent (parent_of parent t.coord) t.coord).part) M
          (λ W s labels sent Z w. ByBegin e k d t l how parent W Z s (ap (label_at l) labels ∙ new)
          (subst (λ ls. MayGive ls k how parent) (sym labels) may) none w) way
  awake M (ByTick e k d t L N r way) =
      goes_on e k (tick_outs (record { number = k; disk = d; live = Some t }) t)
      (with_coord t (let z = again_all t.coord.doings t.coord in z.part)) d t L M r (awake (up k d t L) r) (ByTick e k d t L M r way)
      (tick_first k d t) (λ W s labels sent Z w. ByTick e k d t W Z s w) way
  awake M (ByRestart e k d L N r way) = one (k == 1) refl (awake (down k d L) r)
    where
      outs : List Effect
      outs = restart_outs hd k (d.inc + 1) d

      v : Parts
      v = parts_in k (d.inc + 1) d

      ups : k ≡ 1 → IsAwake hd (down k d L) → IsUpNow k v M ⊎ HasFallen k L M → IsAwake hd M
      ups is A (inl now) = stays M (ByRestart e k d L M r way) (record { number = k; disk = now.0; live = Some v }) v
          (ap M.nodes (sym is) ∙ now.1) refl
      ups is A (inr fallen) = again k d L M is A fallen

      one : (b : Bool) → (k == 1) ≡ b → IsAwake hd (down k d L) → IsAwake hd M
      one true is A = ups (eqb-true k 1 is) A (own_way e k outs v d L M (restart_first hd k (d.inc + 1) d) way)
      one false off A = beside k d None L off A (λ ls. ls) e outs v M (λ W s labels sent Z w. ByRestart e k d W Z s w) way
