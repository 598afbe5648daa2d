-- What a node makes of each message leaves what holds of calls and votes.
use Rattle.arj_law_parts.proofs.Words
use Words.{◌≡◌, ◌≤◌, ◌==◌, ℕ, List, [], ◌∷◌, ◌++◌, true, false, cond, Option, Some, None, refl, sym, ◌∙◌, ap, subst, inl, inr, arith}
use Words.{append-nil, ⊤, AllByRecursion, and_parts, eqb-true, Ask, Asked, Head, Message, ObjectState, asks, Reply, actor, answers}
use Words.{response, Coord, Abort, Commit, Disk, Do, Effect, Look, Prepare, PutInc, PutIntent, RemoveIntent, Say, Send, Work, stopped}
use Words.{worked, Parts, AreAll, is_names_work, is_naming_effect, is_server_effect, Node, Post}
use Words.message
use Rattle.arj_law_runs.proofs.Terms
use Terms.{Action, AreTrue, Paths, KeepsInc, doing_by, all_both, all_quiet, stopped_inc, worked_inc, In, refusal_of, refused_by, refuses}
use Terms.{vote_by, vote_in, vote_of}
use Rattle.arj_law_parts.specs.parts.Claims.{IsHomeWork, is_of_coord}
use Rattle.arj_law_runs.proofs.calls
use calls.CoordSends.{AllSo, SendsSo}
use calls.WorldWalks.{AllFine, IsFine}

-- ---- answers of coordinators: none

pub no_answer : (m : Message) → is_of_coord m ≡ true → answers m ≡ None
no_answer (message.Told m) is = refl
no_answer (message.Acked m) is = refl
no_answer (message.Query m) is = refl
no_answer (message.Hello m) is = refl
no_answer (message.Bind m) is = refl
no_answer (message.Bound m) is = absurd (cc is)
no_answer (message.Load m) is = refl
no_answer (message.Loaded m) is = absurd (cc is)
no_answer (message.Activate m) is = refl
no_answer (message.Activated m) is = absurd (cc is)
no_answer (message.RecordMsg m) is = refl
no_answer (message.Recorded m) is = absurd (cc is)
no_answer (message.Invoke m) is = refl
no_answer (message.Invoked m) is = absurd (cc is)
no_answer (message.Vote m) is = refl
no_answer (message.Voted m) is = absurd (cc is)
no_answer (message.Prepare m) is = refl
no_answer (message.Prepared m) is = absurd (cc is)
no_answer (message.Confirm m) is = refl
no_answer (message.Confirmed m) is = absurd (cc is)

-- ---- plain effects: requests of what waits, and answers that refuse and vote nothing

abbrev pub IsPlain : ℕ → Coord → Effect → Type 0
IsPlain i c (Send to m) = SendsSo c (Send to m) × (refusal_of m ≡ None) × (vote_of m ≡ None)
IsPlain i c (Say b) = ⊤
IsPlain i c (Do w) = KeepsInc i w

abbrev pub ArePlain : ℕ → Coord → List Effect → Type 0
ArePlain i c outs = AllByRecursion (IsPlain i c) outs

home_inc : (n i : ℕ) (w : Work) → IsHomeWork n i w → KeepsInc i w
home_inc n i Look h = tt
home_inc n i (PutInc j) h = absurd h
home_inc n i (Prepare r u states) h = tt
home_inc n i (Commit r u) h = tt
home_inc n i (Abort r u) h = tt
home_inc n i (PutIntent u e) h = tt
home_inc n i (RemoveIntent u) h = tt

-- what a coordinator sends is plain
pub coord_plain : (c : Coord) (outs : List Effect) → AreTrue c outs → AllSo c outs → ArePlain c.tree.inc c outs
coord_plain c [] t s = tt
coord_plain c (Send to m ∷ es) t s = let f = t.0 in let none = no_answer m f.plain in
    ((s.0, ap refused_of none, ap vote_none none), coord_plain c es t.1 s.1)
  where
    refused_of : Option (Asked × Reply) → Option Asked
    refused_of o = refused_by o

    vote_none : Option (Asked × Reply) → Option (Asked × List ObjectState)
    vote_none o = vote_by o
coord_plain c (Say b ∷ es) t s = (tt, coord_plain c es t.1 s.1)
coord_plain c (Do w ∷ es) t s = (home_inc c.tree.node c.tree.inc w t.0, coord_plain c es t.1 s.1)

pub server_plain : (i : ℕ) (c : Coord) (n : ℕ) (outs : List Effect) → AreAll (is_server_effect n) outs → ArePlain i c outs
server_plain i c n outs all = all_quiet (IsPlain i c) (is_server_effect n) (λ to m. refl) each outs all
  where
    each : (e : Effect) → is_server_effect n e ≡ true → IsPlain i c e
    each (Say b) is = tt
    each (Send to m) is = absurd (cc is)
    each (Do w) is = absurd (cc is)

pub naming_plain : (i : ℕ) (c : Coord) (outs : List Effect) → AreAll is_naming_effect outs → ArePlain i c outs
naming_plain i c outs all = all_quiet (IsPlain i c) is_naming_effect (λ to m. refl) each outs all
  where
    work : (w : Work) → is_names_work w ≡ true → KeepsInc i w
    work Look is = tt
    work (PutInc j) is = absurd (cc is)
    work (Prepare r u states) is = tt
    work (Commit r u) is = tt
    work (Abort r u) is = tt
    work (PutIntent u e) is = tt
    work (RemoveIntent u) is = tt

    each : (e : Effect) → is_naming_effect e ≡ true → IsPlain i c e
    each (Say b) is = tt
    each (Send to m) is = absurd (cc is)
    each (Do w) is = work w is

pub plain_both : (i : ℕ) (c : Coord) (xs ys : List Effect) → ArePlain i c xs → ArePlain i c ys → ArePlain i c (xs ++ ys)
plain_both i c xs ys a b = all_both (IsPlain i c) xs ys a b

pub no_request : (a : Asked) (r : Reply) → asks (response a r) ≡ None
no_request a (Reply.Bound r) = refl
no_request a (Reply.Loaded r) = refl
no_request a (Reply.Activated r) = refl
no_request a (Reply.Noted r) = refl
no_request a (Reply.Invoked r) = refl
no_request a (Reply.Voted r) = refl
no_request a (Reply.Prepared r) = refl
no_request a (Reply.Confirmed r) = refl

pub reads_back : (a : Asked) (r : Reply) → answers (response a r) ≡ Some (a, r)
reads_back a (Reply.Bound r) = refl
reads_back a (Reply.Loaded r) = refl
reads_back a (Reply.Activated r) = refl
reads_back a (Reply.Noted r) = refl
reads_back a (Reply.Invoked r) = refl
reads_back a (Reply.Voted r) = refl
reads_back a (Reply.Prepared r) = refl
reads_back a (Reply.Confirmed r) = refl

pub answer_so : (c : Coord) (to : ℕ) (a : Asked) (r : Reply) → SendsSo c (Send to (response a r))
answer_so c to a r h q is = absurd (cc (sym (no_request a r) ∙ is))

-- an answer that refuses and votes nothing
pub answer_plain : (i : ℕ) (c : Coord) (to : ℕ) (a : Asked) (r : Reply) → refuses r ≡ false → vote_in a r ≡ None →
    IsPlain i c (Send to (response a r))
answer_plain i c to a r fine none =
    (answer_so c to a r, ap refused_by (reads_back a r) ∙ (λ j. cond (fine j) (Some a) None), ap vote_by (reads_back a r) ∙ none)

-- ---- plain effects are fine

module _ (acts : List Action) (paths : Paths) (k : ℕ) (n : Node) (v : Parts) (inc : v.coord.tree.inc ≡ n.disk.inc) (nodes : ℕ →
    Option Node) where
  low : (to : ℕ) (m : Message) (d : Disk) → d.inc ≡ n.disk.inc → SendsSo v.coord (Send to m) → (h : Head) (a : Ask) → asks m ≡ Some (h, a) →
      (actor h.path).inc ≤ d.inc
  low to m d level so h a is = let s = so h a is in let o = doing_by (actor h.path) v.coord s.doing s.found in
      number (actor h.path).inc d.inc (eqb-true (actor h.path).inc v.coord.tree.inc
      (and_parts ((actor h.path).node == v.coord.tree.node) ((actor h.path).inc == v.coord.tree.inc) o.0).1 ∙ inc ∙ sym level)
    where
      number : (i j : ℕ) → i ≡ j → i ≤ j
      number i j is = omega (arith, is)

  pub plain_one : (to : ℕ) (m : Message) (sent : List Post) → IsPlain n.disk.inc v.coord (Send to m) → IsFine acts paths sent k n v to m
  plain_one to m sent p = record {
    so = p.0;
    refusal = λ a is. absurd (cc (sym p.1 ∙ is));
    clear = λ a is x c e at i o same. absurd (cc (sym p.1 ∙ is));
    vote = λ a states is. absurd (cc (sym p.2 ∙ is));
    fits = λ to_k a states is d m found now s i. absurd (cc (sym p.2 ∙ is));
  }

  -- before others
  pub plain_then : (es fs : List Effect) (d : Disk) (sent : List Post) → d.inc ≡ n.disk.inc → ArePlain n.disk.inc v.coord es →
      ((e : Disk) (more : List Post) → e.inc ≡ n.disk.inc → ((p : Post) → In p sent → In p more) → AllFine acts paths k n v nodes fs more e)
      → AllFine acts paths k n v nodes (es ++ fs) sent d
  plain_then [] fs d sent level p rest = rest d sent level (λ q i. i)
  plain_then (Say b ∷ es) fs d sent level p rest = plain_then es fs d sent level p.1 rest
  plain_then (Do w ∷ es) fs d sent level p rest = (
    (λ how. number d.inc (stopped how w d).inc (level ∙ sym (stopped_inc n.disk.inc how w d p.0 level))),
    plain_then es fs (worked w d) sent (worked_inc n.disk.inc w d p.0 level) p.1 rest,
  )
    where
      number : (i j : ℕ) → i ≡ j → i ≤ j
      number i j is = omega (arith, is)
  plain_then (Send to m ∷ es) fs d sent level p rest = let f = p.0 in (
    (plain_one to m sent f, inl f.1, low to m d level f.0, λ j other is t up a states vote q z found now s i. absurd (cc (sym f.2 ∙ vote))),
    plain_then es fs d (record { from = k; to = to; message = m } ∷ sent) level p.1
        (λ e more same up. rest e more same (λ q i. up q (inr i))),
  )

  pub plain_fine : (es : List Effect) (d : Disk) (sent : List Post) → d.inc ≡ n.disk.inc → ArePlain n.disk.inc v.coord es →
      AllFine acts paths k n v nodes es sent d
  plain_fine es d sent level p =
      subst (λ z. AllFine acts paths k n v nodes z sent d) (append-nil es) (plain_then es [] d sent level p (λ e more same up. same))
