-- Naming's count of bindings is no more than the journal's lines of new bindings, in each run.
use Rattle.arj_law_parts.proofs.Words
use Words.{◌≡◌, ◌≤◌, ◌==◌, ◌+◌, ℕ, List, [], ◌∷◌, ◌++◌, Bool, true, false, cond, Option, Some, None, refl, sym, ◌∙◌, ap, subst, arith, Body}
use Words.{Header, Line, Message, again_all, begin_action, recovered_naming, Disk, Do, Effect, Say, Send, stopped, worked, tick_outs}
use Words.{Naming, Parts, Took, handle, with_coord, Node, acts, naming_at, parent_of, parts_in, restart_outs}
use Words.{numbered, Seen, is_serial}
use Words.body
use Rattle.arj_law_runs.proofs.Terms.{disk_by, Keeps, at, down, given, posted, said, up, Up, Walks, halted, bindings_made, bound_by}
use Rattle.arj_law_runs.proofs.calls
use calls.LivedCounts.{GrowsBy, made_in, message_grows}
use calls.ServerCalls.{never, some_is}
use Rattle.arj_law_runs.proofs.kept.{Starts.first_up, Walked.other_number, Walked.same_number}
use Rattle.arj_law_runs.specs.calls.Bindings.{AreSaid, IsSaidBy}

none_is : {A : Type 0} {x : A} → None ≡ Some x → ⊥
none_is {A} {x} is = let no_way : ◌≡◌ {A = Option A} None (Some x) = is in cc

-- the lines of both
pub lines_both : (ls ms : List Line) → bindings_made (ls ++ ms) ≡ bindings_made ls + bindings_made ms
lines_both [] ms = none (bindings_made ms)
  where
    none : (n : ℕ) → n ≡ 0 + n
    none n = omega arith
lines_both (l ∷ ls) ms = ap (λ n. bound_by l.body + n) (lines_both ls ms) ∙ three (bound_by l.body) (bindings_made ls) (bindings_made ms)
  where
    three : (a b c : ℕ) → a + (b + c) ≡ a + b + c
    three a b c = omega arith

-- a front of a journal has no more of them
pub fewer : (ls ms : List Line) → bindings_made ls ≤ bindings_made (ls ++ ms)
fewer ls ms = less (bindings_made (ls ++ ms)) (bindings_made ls) (bindings_made ms) (lines_both ls ms)
  where
    less : (n a b : ℕ) → n ≡ a + b → a ≤ n
    less n a b same = omega (arith, same)

-- at the other nodes
abbrev AreSaidOff : ℕ → Seen → Type 0
AreSaidOff k M = (j : ℕ) (n : Node) → (j ≡ k → ⊥) → M.nodes j ≡ Some n → IsSaidBy M.lines n.live

at_most : (a b c : ℕ) → a ≤ b → b ≤ c → a ≤ c
at_most a b c x y = omega (arith, x, y)

more_lines : (e : ℕ) (bs : List Body) (M : Seen) → AreSaid M → AreSaid (said e bs M)
more_lines e bs M s j n is t o up its =
    at_most o.count (bindings_made M.lines) (bindings_made (M.lines ++ numbered e bs)) (s j n is t o up its) (fewer M.lines (numbered e bs))

module _ (k : ℕ) where
  off_more : (e : ℕ) (bs : List Body) (M : Seen) → AreSaidOff k M → AreSaidOff k (said e bs M)
  off_more e bs M s j n other is t o up its = at_most o.count (bindings_made M.lines) (bindings_made (M.lines ++ numbered e bs))
      (s j n other is t o up its) (fewer M.lines (numbered e bs))

  whole : (d : Disk) (live : Option Parts) (M : Seen) → AreSaidOff k M → IsSaidBy M.lines live → AreSaid (at k d live M)
  whole d live M others own j n = by (j == k) refl
    where
      by : (b : Bool) → (j == k) ≡ b → cond b (Some (record { number = k; disk = d; live = live })) (M.nodes j) ≡ Some n →
          IsSaidBy M.lines n.live
      by true at_k is = subst (λ (z : Node). IsSaidBy M.lines z.live) (some_is is) own
      by false off is = others j n (λ same. never (ap (λ z. z == k) same ∙ same_number k) off) is

  others_of : (d : Disk) (live : Option Parts) (M : Seen) → AreSaid (at k d live M) → AreSaidOff k M
  others_of d live M s j n other is =
      s j n ((λ i. cond (other_number j k other i) (Some (record { number = k; disk = d; live = live })) (M.nodes j)) ∙ is)

  own_of : (d : Disk) (live : Option Parts) (M : Seen) → AreSaid (at k d live M) → IsSaidBy M.lines live
  own_of d live M s = s k (record { number = k; disk = d; live = live })
      (λ i. cond (same_number k i) (Some (record { number = k; disk = d; live = live })) (M.nodes k))

  stops : (e : ℕ) (d : Disk) (M : Seen) → AreSaidOff k M → AreSaid (halted e k d M)
  stops e d M others = more_lines e (body.Halted k ∷ []) (down k d M) (whole d None M others (λ t o up its. absurd (none_is up)))

  -- with what the effects say from here on
  said_walk : (e : ℕ) (v : Parts) (es : List Effect) (d : Disk) (M : Seen) → AreSaidOff k M →
      ((o : Naming) → v.naming ≡ Some o → o.count ≤ bindings_made M.lines + made_in es) → Walks AreSaid e k es (Up AreSaid k v) d M
  said_walk e v [] d M others own = whole d (Some v) M others
      (λ t o up its. none_more o.count (bindings_made M.lines) (own o (ap (λ (z : Parts). z.naming) (some_is up) ∙ its)))
    where
      none_more : (a b : ℕ) → a ≤ b + 0 → a ≤ b
      none_more a b le = omega (arith, le)
  said_walk e v (Do w ∷ es) d M others own = (λ how. stops e (stopped how w d) M others, said_walk e v es (worked w d) M others own)
  said_walk e v (Say b ∷ es) d M others own =
      said_walk e v es d (said e (b ∷ []) M) (off_more e (b ∷ []) M others) (λ o its. moved o.count (bindings_made M.lines) (bound_by b)
      (made_in es) (bindings_made (M.lines ++ numbered e (b ∷ []))) (own o its) (lines_both M.lines (numbered e (b ∷ []))))
    where
      moved : (a l b m n : ℕ) → a ≤ l + (b + m) → n ≡ l + (b + 0) → a ≤ n + m
      moved a l b m n le is = omega (arith, le, is)
  said_walk e v (Send to m ∷ es) d M others own = λ more quiet.
      said_walk e v es d (said e more (posted (record { from = k; to = to; message = m }) M)) (off_more e more M others)
      (λ o its. later o.count (bindings_made M.lines) (bindings_made (M.lines ++ numbered e more)) (made_in es) (own o its)
      (fewer M.lines (numbered e more)))
    where
      later : (a b c m : ℕ) → a ≤ b + m → b ≤ c → a ≤ c + m
      later a b c m le less = omega (arith, le, less)

  -- with the naming part that it had
  same_walk : (e : ℕ) (t v : Parts) (es : List Effect) (d c : Disk) (M : Seen) → v.naming ≡ t.naming → AreSaid (up k c t M) →
      Walks AreSaid e k es (Up AreSaid k v) d M
  same_walk e t v es d c M same s = said_walk e v es d M (others_of c (Some t) M s)
      (λ o its. added o.count (bindings_made M.lines) (made_in es) (own_of c (Some t) M s t o refl (sym same ∙ its)))
    where
      added : (a b m : ℕ) → a ≤ b → a ≤ b + m
      added a b m le = omega (arith, le)

  message_said : (e : ℕ) (d : Disk) (t v : Parts) (from : ℕ) (m : Message) (outs : List Effect) (M : Seen) → AreSaid (up k d t M) →
      handle k d t from m ≡ Took v outs → Walks AreSaid e k outs (Up AreSaid k v) d M
  message_said e d t v from m outs M s is = said_walk e v outs d M (others_of d (Some t) M s)
      (λ p its. let g = (subst (GrowsBy k d t from) is (message_grows k d t from m)).1 p its in
      counted p.count (let o = g.0 in o.count) (made_in outs) (bindings_made M.lines) g.3 (own_of d (Some t) M s t g.0 refl g.1))
    where
      counted : (p o m l : ℕ) → p ≤ o + m → o ≤ l → p ≤ l + m
      counted p o m l x y = omega (arith, x, y)

none_counted : (k inc : ℕ) (d : Disk) (o : Naming) (n : ℕ) → naming_at k inc d.names ≡ Some o → o.count ≤ n
none_counted k inc d o n = by (k == 1)
  where
    none_yet : 0 ≤ n
    none_yet = omega arith

    by : (b : Bool) → cond b (Some (recovered_naming inc d.names)) None ≡ Some o → o.count ≤ n
    by true is = subst (λ (z : Naming). z.count ≤ n) (some_is is) none_yet
    by false is = absurd (none_is is)

pub counts_are_said : (hd : Header) → Keeps hd AreSaid
counts_are_said hd = record {
  quiet = λ e bs M quiet s. more_lines e bs M s;
  stop = λ e k d live M s. stops k e d M (others_of k d live M s);
  message = λ e k d t v from m outs M s there meant is. message_said k e d t v from m outs M s is;
  act = λ e k d t i M is none s. let did = acts i d.intents t.coord in same_walk k e t (with_coord t did.part) did.outs d d M refl s;
  begin = λ e k d t l how parent M new may none s. let did = begin_action l how parent (parent_of parent t.coord) t.coord in
      same_walk k e t (with_coord t did.part) did.outs d d (given l (record { node = k; serial = is_serial how }) M) refl s;
  tick = λ e k d t M s. same_walk k e t (with_coord t (again_all t.coord.doings t.coord).part)
      (tick_outs (record { number = k; disk = d; live = Some t }) t) d d M refl s;
  restart = λ e k d M s. said_walk k e (parts_in k (d.inc + 1) d) (restart_outs hd k (d.inc + 1) d) d M (others_of k d None M s)
      (λ o its. none_counted k (d.inc + 1) d o _ its);
  first = λ st formed j n is t o up its. none_counted j (st.incs j + 1) (disk_by hd st j) o 0
      (ap (λ (z : Parts). z.naming) (first_up hd st j n t is up) ∙ its);
}
