-- A binding that isn't recorded yet, of a top that has the write lock on the object's entry, is the last one that naming made of the
-- object.
use Rattle.arj_law_parts.proofs.Words
use Words.{◌≡◌, ◌⊎◌, ◌≤◌, ◌<◌, ◌∙◌, ◌+◌, ◌==◌, ◌++◌, ℕ, Bool, true, false, cond, map, List, [], ◌∷◌, Option, Some, None, refl, sym, ap}
use Words.{subst}
use Words.{inl, inr, ⊎_elim, ⊤, arith, append-nil, append_assoc, list_all, and_parts, eqb-true, option_map, is_eq, nat_cmp, one_or_two}
use Words.{uid_cases, all_both}
use Words.{Ask, Binding, Body, BoundReply, Head, Header, Line, Message, ObjectState, Path, Row, Start, Uid, asks, asked_by, response}
use Words.{Reply, Disk, Do, Effect, Pair, Say, Send, Served, void, Counted, Made, Named, Naming, bind_named, bound_new, entry_row}
use Words.{listed_entry, lock_lines}
use Words.{locked, next_server, named_back, recovered_naming, is_over, on_counted, at_number, at_uid, put_number, put_same, put_other}
use Words.{put_uid, top_of}
use Words.{Handled, Parts, Took, Void, handle, handle_ask, if_naming, is_meant, sends_answer, with_naming, parts_in, numbered, Seen}
use Words.ask
use Words.body
use Words.mode
use Words.naming
use Rattle.arj_law_lock_view.proofs.Terms.{Action, IsAsker, begun_fits, owners_of, untold_path}
use Rattle.arj_law_lock_view.proofs.facts.GoodNaming.{held_objects, objects_keep}
use Rattle.arj_law_lock_view.specs.facts.Uppers.{HoldsObjects, ObjectsAreHeld}
use Rattle.arj_law_parts.proofs.Terms.{Fits, HasLock, IsGoodObject, Untold}
use Rattle.arj_law_parts.proofs.parts.{GoodObjects.owner_untold, Keys.put_cases, Stands.asked_has, Stands.one_top}
use Rattle.arj_law_parts.specs.moves.Keeps.{IsAtStarts, Keeps}
use Rattle.arj_law_parts.specs.moves.Seen as seen
use Rattle.arj_law_parts.specs.moves.Seen.{AreQuiet, up}
use Rattle.arj_law_parts.specs.parts.Messages.{FitsAsked}
use Rattle.arj_law_runs.proofs.Terms.{disk_by}
use Rattle.arj_law_runs.proofs.bindings.Weights.{bind_by}
use Rattle.arj_law_runs.proofs.calls.Given.{KeepsGiven, keeps_given, kept_both}
use Rattle.arj_law_runs.proofs.kept.Starts.{first_up}
use Rattle.arj_law_runs.proofs.kept.Walked.{same_number}
use Rattle.arj_law_runs.specs.calls.Bindings.{HasFewBindings, bindings_made, bound_by}
use Rattle.arj_law_serial.proofs.holding.Says as saying
use Rattle.arj_law_cause.proofs.bindings.Binding.{IsAskedFor, IsLight, bind_shape, locks_plain}
use Rattle.arj_law_cause.proofs.bindings.Counted.{HasNames, IsBefore, IsGiven, KnowsNames, is_free, message_free, names_keep, no_bound}
use Rattle.arj_law_cause.proofs.bindings.Counted.{owns}
use Rattle.arj_model.specs.Refusals.{incarnation}
use Rattle.arj_law_cause.proofs.bindings.Lines.{IsLined, lined_parts, lined_still, quiet_tells, tells}
use Rattle.arj_law_cause.proofs.bindings.Nodes as nodes
use Rattle.arj_law_cause.proofs.bindings.Nodes.{ArePlain, is_own}
use Rattle.arj_law_cause.proofs.bindings.Staying.{LeftBy, is_bind, message_leaves}
use Rattle.arj_law_cause.proofs.bindings.Unrecorded
use Unrecorded.{AllFewer, Fewer, IsInOrder, asked_less, confirm_fewer, fewer_itself, fewer_put, hello_fewer, note_fewer, told_fewer}

some_is : {A : Type 0} {a b : A} → Some a ≡ Some b → a ≡ b
some_is {A} {a} {b} is = let k : ◌≡◌ {A = Option A} (Some a) (Some b) = is in cc

none_is : {A P : Type 0} {x : A} → None ≡ Some x → P
none_is {A} {P} {x} is = let no_way : ◌≡◌ {A = Option A} None (Some x) = is in absurd (cc no_way)

-- ---- what is known

-- no line says of a later binding of the object
abbrev pub IsLatest : List Line → ℕ → Binding → Type 0
IsLatest ls x b = (c : Binding) (s : ℕ) → IsLined ls x c s → IsBefore b.inc b.count c

-- so it is of each that isn't recorded, of a top that has the write lock
abbrev pub AllLatest : List Line → Naming → Type 0
AllLatest ls n = (x : ℕ) (v : Named) (u : Uid) (m : Made) → at_number x n.objects ≡ Some v → at_uid u v.made ≡ Some m → m.recorded ≡ false →
    HasLock u 2 v.rows → IsLatest ls x m.binding

-- naming is at the first node, and has it so
abbrev pub HasLatest : ℕ → Parts → Start → List Line → Type 0
HasLatest j t st ls = (n : Naming) → t.naming ≡ Some n → (j ≡ 1) × AllLatest ls n

abbrev pub Nothing : Start → List Line → Type 0
Nothing st ls = ⊤

unsaid : (ls : List Line) (e : ℕ) (b : Body) → bound_by b ≡ 0 → (n : Naming) → AllLatest ls n → AllLatest (ls ++ numbered e (b ∷ [])) n
unsaid ls e b none n all x v u m at found not_yet lock c s h = all x v u m at found not_yet lock c s (no_bound ls e b none x c s h)

latest_unsaid : (j : ℕ) (t : Parts) (st : Start) (ls : List Line) (e : ℕ) (b : Body) → bound_by b ≡ 0 → HasLatest j t st ls →
    HasLatest j t st (ls ++ numbered e (b ∷ []))
latest_unsaid j t st ls e b none h n at = let r = h n at in (r.0, unsaid ls e b none n r.1)

tells_unbound : (b : Body) → tells b ≡ false → bound_by b ≡ 0
tells_unbound (body.Bound x b s) is = absurd (cc is)
tells_unbound b is = refl

pub latest_keeps : (j : ℕ) (t : Parts) (st : Start) (ls : List Line) (e : ℕ) (b : Body) → tells b ≡ false → HasLatest j t st ls →
    HasLatest j t st (ls ++ numbered e (b ∷ []))
latest_keeps j t st ls e b is h = latest_unsaid j t st ls e b (tells_unbound b is) h

pub latest_off : (j k : ℕ) → (j == k) ≡ false → (t : Parts) (st : Start) (ls : List Line) (e : ℕ) (b : Body) → is_own k b ≡ true →
    HasLatest j t st ls → HasLatest j t st (ls ++ numbered e (b ∷ []))
latest_off j k off t st ls e (body.Bound x b s) own h = λ n at.
    let r = h n at in
    let no_way : true ≡ false = sym own ∙ (λ i. k == sym r.0 i) ∙ turned j k off in absurd (cc no_way)
  where
    turned : (m n : ℕ) → (m == n) ≡ false → (n == m) ≡ false
    turned m n is = grind (arith, Words.nat_tests, is)
latest_off j k off t st ls e b own h = latest_unsaid j t st ls e b refl h

pub nothing_stays : (st : Start) (ls : List Line) (e : ℕ) (b : Body) → tells b ≡ false → Nothing st ls →
    Nothing st (ls ++ numbered e (b ∷ []))
nothing_stays st ls e b is h = tt

abbrev pub Latest : Seen → Type 0
Latest = nodes.HoldsSo HasLatest Nothing latest_keeps latest_off nothing_stays

abbrev Due : ℕ → Parts → Start → ℕ → List Effect → List Line → Type 0
Due = nodes.Due HasLatest Nothing latest_keeps latest_off nothing_stays

fewer_latest : (ls : List Line) (n p : Naming) → AllFewer n p → AllLatest ls n → AllLatest ls p
fewer_latest ls n p fewer all x v u m at found not_yet lock =
    let g = fewer x v at in
    let r = g.2 u m found not_yet lock in all x g.0 u m g.1 r.0 not_yet r.1

-- ---- effects of no new binding

quiet_unbound : (k : ℕ) (v : Parts) (st : Start) (e : ℕ) (bs : List Body) → AreQuiet bs → (ls : List Line) → HasLatest k v st ls →
    HasLatest k v st (ls ++ numbered e bs)
quiet_unbound k v st e [] are ls h = subst (HasLatest k v st) (sym (append-nil ls)) h
quiet_unbound k v st e (b ∷ bs) are ls h =
    let q = and_parts (seen.is_quiet_line b) (list_all seen.is_quiet_line bs) are in
    subst (HasLatest k v st) (append_assoc ls (numbered e (b ∷ [])) (numbered e bs))
    (quiet_unbound k v st e bs q.1 (ls ++ numbered e (b ∷ [])) (latest_keeps k v st ls e b (quiet_tells b q.0) h))

free_unbound : (b : Body) → is_free b ≡ true → bound_by b ≡ 0
free_unbound (body.Bound x b s) is = absurd (cc is)
free_unbound b is = refl

free_due : (k : ℕ) (v : Parts) (st : Start) (e : ℕ) (es : List Effect) → saying.All is_free es → (ls : List Line) → HasLatest k v st ls →
    Due k v st e es ls
free_due k v st e [] all ls h = h
free_due k v st e (Do w ∷ es) all ls h = free_due k v st e es all ls h
free_due k v st e (Say b ∷ es) all ls h =
    let q = and_parts (is_free b) (list_all (saying.says is_free) es) all in
    (tt, free_due k v st e es q.1 (ls ++ numbered e (b ∷ [])) (latest_unsaid k v st ls e b (free_unbound b q.0) h))
free_due k v st e (Send to m ∷ es) all ls h = λ more quiet.
    free_due k v st e es all (ls ++ numbered e more) (quiet_unbound k v st e more quiet ls h)

-- whatever lines there are
any_due : (k : ℕ) (v : Parts) (st : Start) (e : ℕ) (es : List Effect) → ((ls : List Line) → HasLatest k v st ls) → (ls : List Line) →
    Due k v st e es ls
any_due k v st e [] each ls = each ls
any_due k v st e (Do w ∷ es) each ls = any_due k v st e es each ls
any_due k v st e (Say b ∷ es) each ls = (tt, any_due k v st e es each (ls ++ numbered e (b ∷ [])))
any_due k v st e (Send to m ∷ es) each ls = λ more quiet. any_due k v st e es each (ls ++ numbered e more)

-- ---- a Bind

module _ (acts : List Action) (x : ℕ) (p : Path) (q : Named) (told : Uid → Bool) (inc count : ℕ) (fits : Fits (owners_of acts) p)
    (untold : Untold told p) (good : IsGoodObject (owners_of acts) told inc count x q) where
  -- one that makes none
  light_fewer : (c : Counted) (r : Served Counted BoundReply) → c.named ≡ q → IsLight x p c r → Fewer q (let z = r.part in z.named)
  light_fewer c r same light u m found not_yet lock = (was, by light.rows)
    where
      was : at_uid u q.made ≡ Some m
      was = ap (at_uid u) (sym (light.made ∙ ap (λ (o : Named). o.made) same)) ∙ found

      own : u ≡ top_of p → HasLock u 2 q.rows
      own is = subst (λ w. HasLock w 2 q.rows) (sym is)
          (good.unrecorded (top_of p) m (ap (λ w. at_uid w q.made) (sym is) ∙ was) not_yet (owner_untold
          (owners_of acts) told x p fits untold)).lock

      by : IsAskedFor x p (let o = c.named in o.rows) (let z = r.part in (let o = z.named in o.rows)) → HasLock u 2 q.rows
      by (inl is) = subst (HasLock u 2) (is ∙ ap (λ (o : Named). o.rows) same) lock
      by (inr is) = ⊎_elim own
          (λ apart. asked_less u (entry_row x p is.0) q.rows (inl (λ e. apart (sym e)))
          (subst (HasLock u 2) (is.1 ∙ ap (λ (o : Named). rows_with is.0 o) same) lock))
          (uid_cases u (top_of p))
        where
          rows_with : Words.Mode → Named → List Row
          rows_with m o = Words.rows_asked (entry_row x p m) o.rows

module _ (k e : ℕ) (t : Parts) (st : Start) (fs : List Effect) (plain : ArePlain fs) (acts : List Action) (p : Path) (x : ℕ)
    (n : Naming) (at : t.naming ≡ Some n) (fits : Fits (owners_of acts) p) (untold : Untold (Words.is_on n.told) p)
    (good : (y : ℕ) (o : Named) → at_number y n.objects ≡ Some o → IsGoodObject (owners_of acts) (Words.is_on n.told) n.inc n.count y o)
    (q : Named) (there : at_number x n.objects ≡ Some q) where
  abbrev put_back : Named → ℕ → Naming
  put_back v count = record n { count = count; objects = put_number x v n.objects }

  light_due : (r : Served Counted BoundReply) → IsLight x p (record { named = q; count = n.count }) r → (ls : List Line) →
      HasLatest k t st ls →
      Due k (with_naming t (put_back (let v = r.part in v.named) (let v = r.part in v.count))) st e (r.outs ++ fs) ls
  light_due r light ls h = nodes.plain_due HasLatest Nothing latest_keeps latest_off nothing_stays k
      (with_naming t (put_back (let v = r.part in v.named) (let v = r.part in v.count))) st e (r.outs ++ fs)
      (all_both (saying.says nodes.is_plain) r.outs fs light.plain plain) ls tt now
    where
      now : HasLatest k (with_naming t (put_back (let v = r.part in v.named) (let v = r.part in v.count))) st ls
      now o is = let old = h n at in (
        old.0,
        subst (AllLatest ls) (some_is is)
            (fewer_latest ls n (put_back (let v = r.part in v.named) (let v = r.part in v.count))
            (fewer_put n x (let v = r.part in v.count) q (let v = r.part in v.named) there
            (light_fewer acts x p q (Words.is_on n.told) n.inc n.count fits untold (good x q there)
            (record { named = q; count = n.count }) r refl light))
            old.1),
      )

  -- each line's binding was made before the next one
  abbrev AllBefore : List Line → Type 0
  AllBefore ls = (y : ℕ) (c : Binding) (s : ℕ) → IsLined ls y c s → IsBefore n.inc n.count c

  new_due : (d : Pair) → (let r = bound_new n.inc x p (listed_entry x d) (record { named = q; count = n.count })
      (next_server q.turn (listed_entry x d).servers) in let v = r.part in
      IsGoodObject (owners_of acts) (Words.is_on n.told) n.inc v.count x v.named) →
      (ls : List Line) → AllBefore ls → HasLatest k t st ls →
      (let r = bound_new n.inc x p (listed_entry x d) (record { named = q; count = n.count })
      (next_server q.turn (listed_entry x d).servers) in
      Due k (with_naming t (put_back (let v = r.part in v.named) (let v = r.part in v.count))) st e (r.outs ++ fs) ls)
  new_due d fine ls before h = subst (λ es. Due k v st e es ls) (sym (append_assoc (lock_lines x p mode.Write q) (Say line ∷ []) fs))
      (nodes.front_due HasLatest Nothing latest_keeps latest_off nothing_stays k v st e (λ ms. AllBefore ms × HasLatest k t st ms)
      (λ ms b is z. ((λ y c s h. z.0 y c s (lined_still ms e b is y c s h)), latest_keeps k t st ms e b is z.1))
      (Say line ∷ fs) rest (lock_lines x p mode.Write q) (locks_plain x p mode.Write q) ls tt (before, h))
    where
      s : ℕ
      s = next_server q.turn (listed_entry x d).servers

      b : Binding
      b = record { inc = n.inc; count = n.count + 1 }

      line : Body
      line = body.Bound x b s

      new : Made
      new = record { binding = b; server = s; recorded = false }

      o : Named
      o = record (locked x p mode.Write q) { made = put_uid (top_of p) new q.made; turn = Some s }

      v : Parts
      v = with_naming t (put_back o (n.count + 1))

      later : (c : Binding) → IsBefore n.inc n.count c → IsBefore n.inc (n.count + 1) c
      later c (inl less) = inl less
      later c (inr same) = inr (same.0, up_one c.count n.count same.1)
        where
          up_one : (a b : ℕ) → a ≤ b → a ≤ b + 1
          up_one a b le = omega (arith, le)

      is_latest : (ms : List Line) → AllBefore ms → (y : ℕ) (c : Binding) (z : ℕ) → IsLined ms y c z ⊎ (line ≡ body.Bound y c z) →
          IsBefore n.inc (n.count + 1) c
      is_latest ms gs y c z (inl before) = later c (gs y c z before)
      is_latest ms gs y c z (inr same) = let one : b ≡ c = cc same in subst (IsBefore n.inc (n.count + 1)) one (inr (
        refl,
        least
            (n.count + 1),
      ))
        where
          least : (a : ℕ) → a ≤ a
          least a = omega arith

      other_line : (ms : List Line) (y : ℕ) → ((x == y) ≡ false) → (c : Binding) (z : ℕ) → IsLined ms y c z ⊎ (line ≡ body.Bound y c z) →
          IsLined ms y c z
      other_line ms y off c z (inl before) = before
      other_line ms y off c z (inr same) = let one : x ≡ y = cc same in
          let no_way : true ≡ false = sym (same_number x) ∙ (λ i. x == one i) ∙ off in absurd (cc no_way)

      two_two : 2 ≤ 2 + 2
      two_two = omega arith

      all : (ms : List Line) → AllBefore ms → AllLatest ms n → AllLatest (ms ++ numbered e (line ∷ [])) (put_back o (n.count + 1))
      all ms gs old y w u m there_w found not_yet lock = ⊎_elim here apart (one_or_two x y)
        where
          apart : (is_eq (nat_cmp y x) ≡ false) × ((x == y) ≡ false) → IsLatest (ms ++ numbered e (line ∷ [])) y m.binding
          apart off c z h = old y w u m (sym (put_other x y o n.objects off.0) ∙ there_w) found not_yet lock c z
              (other_line ms y off.1 c z (lined_parts ms e line y c z h))

          here : x ≡ y → IsLatest (ms ++ numbered e (line ∷ [])) y m.binding
          here same c z h = subst (λ (g : Binding). IsBefore g.inc g.count c) (sym its) (is_latest ms gs y c z
              (lined_parts ms e line y c z h))
            where
              is_o : o ≡ w
              is_o = some_is (sym (put_same x o n.objects) ∙ ap (λ j. at_number j (put_number x o n.objects)) same ∙ there_w)

              found_o : at_uid u (put_uid (top_of p) new q.made) ≡ Some m
              found_o = ap (λ (g : Named). at_uid u g.made) is_o ∙ found

              lock_o : HasLock u 2 (locked x p mode.Write q).rows
              lock_o = subst (λ (g : Named). HasLock u 2 g.rows) (sym is_o) lock

              its : m.binding ≡ b
              its = ⊎_elim (λ own. ap (λ (g : Made). g.binding) (sym own.1))
                  (λ f. absurd (f.0 (one_top (owners_of acts) (Words.is_on n.told) x u (top_of p) 2 2
                  (locked x p mode.Write q).rows fine.rows
                  (fine.made u m found_o).0 fits.top two_two lock_o (asked_has (entry_row x p mode.Write) q.rows))))
                  (put_cases u (top_of p) new m q.made found_o)

      rest : (ms : List Line) → Nothing st ms → AllBefore ms × HasLatest k t st ms → Due k v st e (Say line ∷ fs) ms
      rest ms gs z = (
        tt,
        nodes.plain_due HasLatest Nothing latest_keeps latest_off nothing_stays k v st e fs plain (ms ++ numbered e (line ∷ [])) tt
            (λ w is. ((z.1 n at).0, subst (AllLatest (ms ++ numbered e (line ∷ []))) (some_is is) (all ms z.0 (z.1 n at).1))),
      )

  bind_due : (d : Pair) (include : Bool) (avoid : Binding) →
      (let r = bind_named n.inc x p include avoid (listed_entry x d) (record { named = q; count = n.count }) in let v = r.part in
      IsGoodObject (owners_of acts) (Words.is_on n.told) n.inc v.count x v.named) →
      (ls : List Line) → AllBefore ls → HasLatest k t st ls →
      (let r = bind_named n.inc x p include avoid (listed_entry x d) (record { named = q; count = n.count }) in
      Due k (with_naming t (put_back (let v = r.part in v.named) (let v = r.part in v.count))) st e (r.outs ++ fs) ls)
  bind_due d include avoid fine ls before h = ⊎_elim
      (λ light. light_due (bind_named n.inc x p include avoid (listed_entry x d) (record { named = q; count = n.count })) light ls h)
      (λ same. subst (λ (r : Served Counted BoundReply).
      Due k (with_naming t (put_back (let v = r.part in v.named) (let v = r.part in v.count))) st e (r.outs ++ fs) ls) (sym same)
      (new_due d (subst (λ (r : Served Counted BoundReply). let v = r.part in
      IsGoodObject (owners_of acts) (Words.is_on n.told) n.inc v.count x v.named) same fine) ls before h))
      (bind_shape n.inc x p (listed_entry x d) (record { named = q; count = n.count }) include avoid)

-- ---- lines

-- what a line says of a binding stands in the journal
pub said_lined : (ls : List Line) (x : ℕ) (b : Binding) (s : ℕ) → Words.IsSaid ls (body.Bound x b s) → IsLined ls x b s
said_lined ls x b s said = (
  (let l = said.0 in l.event),
  subst (λ (z : Body). Words.In (record { event = (let l = said.0 in l.event); body = z }) ls) said.2 (Words.in_from said.0 ls said.1),
)

-- and counts tell bindings apart, where few were made
pub count_small : (st : Start) (ls : List Line) → IsGiven st ls → HasFewBindings ls → (x : ℕ) (b : Binding) (s : ℕ) → IsLined ls x b s →
    b.count < 4294967296
count_small st ls given few x b s h = low b.count (bindings_made ls) (given.small x b s h) few
  where
    low : (p m : ℕ) → p ≤ m → m < 4294967295 → p < 4294967296
    low p m le less = omega (arith, le, less)

-- ---- a message

-- each line's binding was made before naming's next one
pub made_before : (j : ℕ) (t : Parts) (st : Start) (ls : List Line) → HasNames j t st ls → IsGiven st ls → (n : Naming) →
    t.naming ≡ Some n →
    (y : ℕ) (c : Binding) (s : ℕ) → IsLined ls y c s → IsBefore n.inc n.count c
made_before j t st ls names given n at y c s h = let o = names n at in
    subst (λ i. IsBefore i n.count c) (sym o.inc) (subst (λ k. IsBefore (incarnation st ls 1) k c) (sym o.count) (given.older y c s h))

module _ (e k : ℕ) (d : Disk) (t v : Parts) (from : ℕ) (m : Message) (outs : List Effect) (M : Seen) (known : KnowsNames (up k d t M))
    (held : ObjectsAreHeld (up k d t M)) (stands : HasLatest k t M.start M.lines)
    (there : seen.In (record { from = from; to = k; message = m }) M.sent) (meant : is_meant t m ≡ true) (is : handle k d t from m
    ≡ Took v outs) where
  abbrev acts : List Action
  acts = held.0

  its_node : (let S = up k d t M in S.nodes k) ≡ Some (record { number = k; disk = d; live = Some t })
  its_node = λ i. cond (same_number k i) (Some (record { number = k; disk = d; live = Some t })) (M.nodes k)

  objects : (n : Naming) → t.naming ≡ Some n → HoldsObjects acts n
  objects n at = (let u = held.2 k (record { number = k; disk = d; live = Some t }) its_node in u.live t n refl at)

  before : (n : Naming) → t.naming ≡ Some n → (y : ℕ) (c : Binding) (s : ℕ) → IsLined M.lines y c s → IsBefore n.inc n.count c
  before = made_before k t M.start M.lines (known.1.1 k (record { number = k; disk = d; live = Some t }) t its_node refl) known.1.0

  notes : (p : Path) (x : ℕ) (b : Binding) (i g : ℕ) (n : Naming) → t.naming ≡ Some n → AllFewer n
      (let r = naming.note p x b i g n in r.part)
  notes p x b i g n at = note_fewer p x b i g n

  confirming : (p : Path) (grants : Words.Grants) (excluded included : Words.Marks) (n : Naming) → t.naming ≡ Some n →
      AllFewer n (let r = Words.confirm p grants excluded included d.names n in r.part)
  confirming p grants excluded included n at = confirm_fewer p grants excluded included d.names n

  tells_so : (u : Uid) (f : Words.End) (n : Naming) → t.naming ≡ Some n → AllFewer n (let r = naming.told u f d.names n in r.part)
  tells_so u f n at = told_fewer (owners_of acts) u f d.names n in_order
    where
      in_order : (x : ℕ) (o : Named) → at_number x n.objects ≡ Some o → IsInOrder (owners_of acts) o
      in_order x o there_o =
          let h = objects n at in
          let g = h.objects x o there_o in
          (g.sorted, (let r = g.rows in r.holders), λ u m found. (g.made u m found).0)

  hellos : (node inc : ℕ) (n : Naming) → t.naming ≡ Some n → AllFewer n (naming.hello node inc n)
  hellos node inc n at = hello_fewer node inc n

  others : (o : Option (Head × Ask)) → asks m ≡ o → is_bind o ≡ false → bind_by o ≡ 0 → Due k v M.start e outs M.lines
  others o at off none = free_due k v M.start e outs (message_free k d t v from m outs meant is o at none) M.lines left
    where
      left : HasLatest k v M.start M.lines
      left p vp =
          let r = subst (LeftBy AllFewer k d t from fewer_itself notes confirming tells_so hellos) (sym (ap
          (handle_ask k d t from m) at) ∙ is)
          (message_leaves AllFewer k d t from fewer_itself notes confirming tells_so hellos m o off) p vp in
          let old = stands r.0 r.1 in (old.0, fewer_latest M.lines r.0 p r.2 old.1)

  module _ (h : Head) (x : ℕ) (include : Bool) (avoid : Binding) (at : asks m ≡ Some (h, ask.Bind x include avoid)) (n : Naming)
      (named : t.naming ≡ Some n) (fs : List Effect) (plain : ArePlain fs) where
    who : IsAsker acts h.path
    who = subst (FitsAsked acts m) at (let g = held.1 in g.fits (record { from = from; to = k; message = m }) there)

    fits : Fits (owners_of acts) h.path
    fits = subst (Fits (owners_of acts)) who.2 (begun_fits acts (let g = held.1 in g.begun) who.0 who.1 who.3)

    abbrev at_it : Counted → Served Counted BoundReply
    at_it = bind_named n.inc x h.path include avoid (listed_entry x d.names)

    abbrev BindDue : Served Naming BoundReply → Type 0
    BindDue r = Due k (with_naming t r.part) M.start e (r.outs ++ fs) M.lines

    same_due : BindDue (void n)
    same_due = nodes.plain_due HasLatest Nothing latest_keeps latest_off nothing_stays k (with_naming t n) M.start e fs plain M.lines tt
        (λ o is_o. subst (λ z. (k ≡ 1) × AllLatest M.lines z) (some_is is_o) (stands n named))

    abbrev Good : Served Naming BoundReply → Type 0
    Good r = (y : ℕ) (o : Named) → at_number y (let w = r.part in w.objects) ≡ Some o →
        IsGoodObject (owners_of acts) (Words.is_on (let w = r.part in w.told)) (let w = r.part in w.inc) (let w = r.part in w.count) y o

    good_after : Good (naming.bind h.path x include avoid d.names n)
    good_after = (let b = (held_objects.binds acts (let g = held.1 in g.begun) h.path who x include avoid d.names n
        (objects n named)).0 in b.objects)

    found : is_over h.path n ≡ false → (o : Option Named) → at_number x n.objects ≡ o → BindDue (on_counted x at_it n o)
    found fresh None there_o = same_due
    found fresh (Some q) there_o = bind_due k e t M.start fs plain acts h.path x n named fits (untold_path h.path n fresh)
        (let g = objects n named in g.objects) q there_o d.names include avoid
        (subst Good ((λ i. cond (fresh i) (void n) (on_counted x at_it n (at_number x n.objects)))
        ∙ (λ i. on_counted x at_it n (there_o i)))
        good_after x (let r = at_it (record { named = q; count = n.count }) in let w = r.part in w.named)
        (put_same x (let r = at_it (record { named = q; count = n.count }) in let w = r.part in w.named) n.objects))
        M.lines (before n named) stands

    bound_due : BindDue (naming.bind h.path x include avoid d.names n)
    bound_due = by (is_over h.path n) refl
      where
        by : (b : Bool) → is_over h.path n ≡ b → BindDue (cond {A = Served Naming BoundReply} b (void n) (on_counted x at_it n
            (at_number x n.objects)))
        by true over = same_due
        by false fresh = found fresh (at_number x n.objects) refl

  asked : (o : Option (Head × Ask)) → asks m ≡ o → Due k v M.start e outs M.lines
  asked (Some (h, ask.Bind x include avoid)) at = by_naming t.naming refl (sym (ap (handle_ask k d t from m) at) ∙ is)
    where
      by_naming : (o : Option Naming) → t.naming ≡ o →
          if_naming (λ n. Words.served from h (with_naming t) Reply.Bound (naming.bind h.path x include avoid d.names n)) o ≡ Took v outs →
          Due k v M.start e outs M.lines
      by_naming None named same = let no_way : Void [] ≡ Took v outs = same in absurd (cc no_way)
      by_naming (Some n) named same = by (naming.bind h.path x include avoid d.names n).reply same
        where
          DueBy : Handled → Type 0
          DueBy (Void es) = ⊤
          DueBy (Took w es) = Due k w M.start e es M.lines

          by : (r : Option BoundReply) → sends_answer from h (with_naming t (naming.bind h.path x include avoid d.names n).part)
              (naming.bind h.path x include avoid d.names n).outs (option_map Reply.Bound r) ≡ Took v outs → Due k v M.start e outs M.lines
          by None same = let no_way : Void [] ≡ Took v outs = same in absurd (cc no_way)
          by (Some r) same = subst DueBy same
              (bound_due h x include avoid at n named (Send from (response (asked_by h) (Reply.Bound r)) ∷ []) refl)
  asked None at = others None at refl refl
  asked (Some (h, ask.Load x)) at = others (Some (h, ask.Load x)) at refl refl
  asked (Some (h, ask.Activate b s)) at = others (Some (h, ask.Activate b s)) at refl refl
  asked (Some (h, ask.Record x b i g)) at = others (Some (h, ask.Record x b i g)) at refl refl
  asked (Some (h, ask.Invoke x b i es o)) at = others (Some (h, ask.Invoke x b i es o)) at refl refl
  asked (Some (h, ask.Vote i ties es)) at = others (Some (h, ask.Vote i ties es)) at refl refl
  asked (Some (h, ask.Prepare states)) at = others (Some (h, ask.Prepare states)) at refl refl
  asked (Some (h, ask.Confirm g x i)) at = others (Some (h, ask.Confirm g x i)) at refl refl

-- ---- a restart

recovered_made : (x : ℕ) (d : Pair) (held : List (Uid × ObjectState)) (v : Named) → at_number x (map (named_back d) held) ≡ Some v →
    v.made ≡ []
recovered_made x d [] v is = none_is is
recovered_made x d (e ∷ es) v is = by (is_eq (nat_cmp x (let u = e.0 in u.num))) is (recovered_made x d es v)
  where
    by : (b : Bool) → cond b (Some (let z = named_back d e in z.1)) (at_number x (map (named_back d) es)) ≡ Some v →
        (at_number x (map (named_back d) es) ≡ Some v → v.made ≡ []) → v.made ≡ []
    by true same ih = ap (λ (z : Named). z.made) (sym (some_is same))
    by false same ih = ih same

-- naming that starts has made none
new_latest : (j i : ℕ) (d : Disk) (st : Start) (ls : List Line) → HasLatest j (parts_in j i d) st ls
new_latest j i d st ls n = by (j == 1) refl
  where
    by : (b : Bool) → (j == 1) ≡ b → cond b (Some (recovered_naming i d.names)) None ≡ Some n → (j ≡ 1) × AllLatest ls n
    by false off is = none_is is
    by true on is = (
      eqb-true j 1 on,
      subst (AllLatest ls) (some_is is) (λ x v u m at found not_yet lock.
          none_is (sym (ap (at_uid u) (recovered_made x d.names (let p = d.names in p.held) v at)) ∙ found)),
    )

-- ---- in each run

first_latest : (hd : Header) → IsAtStarts hd Latest
first_latest hd st formed = (
  tt,
  λ j n t there live. subst (λ (z : Parts). HasLatest j z st []) (first_up hd st j n t there live)
      (new_latest j (st.incs j + 1) (disk_by hd st j) st []),
)

pub latest_given : (hd : Header) → KeepsGiven hd (λ M. KnowsNames M × ObjectsAreHeld M) Latest
latest_given hd = nodes.nodes_keep HasLatest Nothing latest_keeps latest_off nothing_stays hd (λ M. KnowsNames M × ObjectsAreHeld M)
    (λ j t c st ls h n at. h n at)
    (λ e k d t v from m outs M known h there meant is.
    let here : (let S = up k d t M in S.nodes k) ≡ Some (record { number = k; disk = d; live = Some t }) =
    λ i. cond (same_number k i) (Some (record { number = k; disk = d; live = Some t })) (M.nodes k) in (
      owns e k d t v from m outs M.start M.lines known.0.1.0 (known.0.1.1 k
          (record { number = k; disk = d; live = Some t }) t here refl) meant is,
      asked e k d t v from m outs M known.0 known.1 (h.1 k (record { number = k; disk = d; live = Some t }) t here refl) there meant is
          (asks m) refl,
    ))
    (λ e k d M known h. any_due k (parts_in k (d.inc + 1) d) M.start e (Words.restart_outs hd k (d.inc + 1) d)
    (λ ls. new_latest k (d.inc + 1) d M.start ls) M.lines)
    (first_latest hd)

-- all that is known of naming's bindings
abbrev pub KnowsLatest : Seen → Type 0
KnowsLatest M = (KnowsNames M × ObjectsAreHeld M) × Latest M

pub latest_keep : (hd : Header) → Keeps hd KnowsLatest
latest_keep hd = kept_both hd (λ M. KnowsNames M × ObjectsAreHeld M) Latest
    (kept_both hd KnowsNames ObjectsAreHeld (names_keep hd) (keeps_given hd KnowsNames ObjectsAreHeld (objects_keep hd))) (latest_given hd)
