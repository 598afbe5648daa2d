-- A step of a node adds lines and leaves the other nodes; and where the node was down its records stay.
use Rattle.arj_law_parts.proofs.Words
use Words.{◌≡◌, ℕ, ◌==◌, List, [], ◌∷◌, ◌++◌, Bool, true, false, cond, Option, Some, None, refl, sym, ◌∙◌, ap, subst, inr, list_all}
use Words.{and_parts, In, in_from, in_to, Body, Line, Uid, Abort, After, Before, Commit, Disk, Do, Effect, InPart, Look, Prepare, PutInc}
use Words.{PutIntent, RemoveIntent, Say, Send, Stop, Work, stopped, worked, Parts, Node, numbered, Post, Seen}
use Words.body
use Words.role
use Rattle.arj_law_disk_view.proofs.Terms.{Act, at, posted, said, Up, Walks, book, new_book, IsPlain, book_more}
use Rattle.arj_law_disk_view.proofs.running.Plain.{Plain, is_plain}
use Rattle.arj_law_runs.specs.journal.Book.{Book, book_from, turned}

-- ---- what it leaves

-- the records of a node that was down are those that it has
abbrev pub HasKept : Node → Node → Type 0
HasKept m n = m.live ≡ None → (let d = n.disk in d.intents) ≡ (let d = m.disk in d.intents)

pub record IsStep (M N : Seen) : Type 0 where
  pub more : List Line
  pub lines : N.lines ≡ M.lines ++ more
  pub nodes : (j : ℕ) (n : Node) → N.nodes j ≡ Some n → (m : Node) × (M.nodes j ≡ Some m) × HasKept m n

-- more lines, and the nodes as they are
pub record IsNear (M N : Seen) : Type 0 where
  pub more : List Line
  pub lines : N.lines ≡ M.lines ++ more
  pub nodes : (j : ℕ) → N.nodes j ≡ M.nodes j

pub nothing_more : {A : Type 0} (xs : List A) → xs ≡ xs ++ []
nothing_more [] = refl
nothing_more (x ∷ xs) = ap (λ ys. x ∷ ys) (nothing_more xs)

and_more : {A : Type 0} (xs ys zs : List A) → (xs ++ ys) ++ zs ≡ xs ++ (ys ++ zs)
and_more [] ys zs = refl
and_more (x ∷ xs) ys zs = ap (λ ws. x ∷ ws) (and_more xs ys zs)

pub near_same : (M : Seen) → IsNear M M
near_same M = record { more = []; lines = nothing_more M.lines; nodes = λ j. refl }

near_said : (e : ℕ) (bs : List Body) (M N : Seen) → IsNear M N → IsNear M (said e bs N)
near_said e bs M N near = record {
  more = near.more ++ numbered e bs;
  lines = ap (λ ls. ls ++ numbered e bs) near.lines ∙ and_more M.lines near.more (numbered e bs);
  nodes = near.nodes;
}

-- an action that began
acts_from : (B : Book) (ls : List Line) (a : Act) → In a B.acts → In a (let V = book_from B ls in V.acts)
acts_from B [] a there = there
acts_from B (l ∷ ls) a there = acts_from (turned B l.body) ls a (one l.body)
  where
    one : (b : Body) → In a (let V = turned B b in V.acts)
    one (body.Began l h w p) = inr there
    one (body.Committing l) = there
    one (body.Committed l) = there
    one (body.Aborted l c) = there
    one (body.Ended l) = there
    one (body.Recovered n w) = there
    one b = there

pub plain_more : (ls ks : List Line) (u : Uid) → IsPlain ls u → IsPlain (ls ++ ks) u
plain_more ls ks u (a, there, uid, kind) = (
  a,
  in_to a (let V = book (ls ++ ks) in V.acts) (subst (λ (V : Book). In a V.acts) (sym (book_more new_book ls ks))
      (acts_from (book ls) ks a (in_from a (let V = book ls in V.acts) there))),
  uid,
  kind,
)

-- ---- works

intents_worked : (w : Work) (d : Disk) → is_plain (Do w) ≡ true → (let c = worked w d in c.intents) ≡ d.intents
intents_worked Look d plain = refl
intents_worked (PutInc i) d plain = refl
intents_worked (Prepare role.Store u states) d plain = refl
intents_worked (Prepare role.Names u states) d plain = refl
intents_worked (Commit role.Store u) d plain = refl
intents_worked (Commit role.Names u) d plain = refl
intents_worked (Abort role.Store u) d plain = refl
intents_worked (Abort role.Names u) d plain = refl
intents_worked (PutIntent u i) d plain = absurd (cc plain)
intents_worked (RemoveIntent u) d plain = absurd (cc plain)

intents_stopped : (how : Stop) (w : Work) (d : Disk) → is_plain (Do w) ≡ true → (let c = stopped how w d in c.intents) ≡ d.intents
intents_stopped Before w d plain = refl
intents_stopped After w d plain = intents_worked w d plain
intents_stopped (InPart which) (Commit role.Store u) d plain = refl
intents_stopped (InPart which) (Commit role.Names u) d plain = refl
intents_stopped (InPart which) Look d plain = refl
intents_stopped (InPart which) (PutInc i) d plain = refl
intents_stopped (InPart which) (Prepare r u states) d plain = refl
intents_stopped (InPart which) (Abort r u) d plain = refl
intents_stopped (InPart which) (PutIntent u i) d plain = refl
intents_stopped (InPart which) (RemoveIntent u) d plain = refl

-- ---- the walk of a step

module _ (k : ℕ) (d : Disk) (live : Option Parts) (M : Seen) where
  -- this node in another state
  pub step_at : (c : Disk) (now : Option Parts) (N : Seen) → IsNear M N → (live ≡ None → c.intents ≡ d.intents) →
      IsStep (at k d live M) (at k c now N)
  step_at c now N near kept = record { more = near.more; lines = near.lines; nodes = λ j n is. by j n (j == k) refl is }
    where
      by : (j : ℕ) (n : Node) (b : Bool) → (j == k) ≡ b → cond b (Some (record { number = k; disk = c; live = now })) (N.nodes j)
          ≡ Some n → (m : Node) × ((at k d live M).nodes j ≡ Some m) × HasKept m n
      by j n true here is = let same : record { number = k; disk = c; live = now } ≡ n = cc is in (
        record { number = k; disk = d; live = live },
        (λ i. cond (here i) (Some (record { number = k; disk = d; live = live })) (M.nodes j)),
        λ down. ap (λ (z : Node). let q = z.disk in q.intents) (sym same) ∙ kept down,
      )
      by j n false other is = (
        n,
        (λ i. cond (other i) (Some (record { number = k; disk = d; live = live })) (M.nodes j)) ∙ sym (near.nodes j) ∙ is,
        λ down. refl,
      )

  -- the node stops; it was up, or not
  pub step_halted : (e : ℕ) (c : Disk) (N : Seen) → IsNear M N → (live ≡ None → c.intents ≡ d.intents) →
      IsStep (at k d live M) (said e (body.Halted k ∷ []) (at k c None N))
  step_halted e c N near kept = step_at c None (said e (body.Halted k ∷ []) N) (near_said e (body.Halted k ∷ []) M N near) kept

  pub step_walk : (e : ℕ) (v : Parts) (es : List Effect) (c : Disk) (N : Seen) → IsNear M N → (live ≡ None → Plain es) →
      (live ≡ None → c.intents ≡ d.intents) → Walks (IsStep (at k d live M)) e k es (Up (IsStep (at k d live M)) k v) c N
  step_walk e v [] c N near plain kept = step_at c (Some v) N near kept
  step_walk e v (Do w ∷ es) c N near plain kept = (
    λ how. step_halted e (stopped how w c) N near (λ down. intents_stopped how w c (here down) ∙ kept down),
    step_walk e v es (worked w c) N near behind (λ down. intents_worked w c (here down) ∙ kept down),
  )
    where
      here : live ≡ None → is_plain (Do w) ≡ true
      here down = (and_parts (is_plain (Do w)) (list_all is_plain es) (plain down)).0

      behind : live ≡ None → Plain es
      behind down = (and_parts (is_plain (Do w)) (list_all is_plain es) (plain down)).1
  step_walk e v (Say b ∷ es) c N near plain kept = step_walk e v es c (said e (b ∷ []) N) (near_said e (b ∷ []) M N near) plain kept
  step_walk e v (Send to m ∷ es) c N near plain kept = λ more quiet. let p : Post = record { from = k; to = to; message = m } in
      step_walk e v es c (said e more (posted p N))
      (near_said e more M (posted p N) (record { more = near.more; lines = near.lines; nodes = near.nodes })) plain kept
