-- Who is decided by the journal, at a node that is up: it is decided by the machine too, or nobody took part in it.
use Rattle.arj_law_parts.proofs.Words
use Words.{sym, ◌≡◌, ◌||◌, ℕ, ◌++◌, List, [], ◌∷◌, Bool, true, false, cond, length, Option, Some, None, refl, ◌∙◌, ap, subst, inl, inr}
use Words.{⊎_elim, zero, suc, in_to, End, Line, Uid, doing_of, new_coord, Disk, Intent, Parts, at_uid, uid_number, Branch, at_place}
use Words.{branch_of, is_open, is_open_branch, Seen}
use Words.ending
use Words.order
use Rattle.arj_law_disk_view.proofs.Terms
use Terms.{it, bool_cases, never, up, IsLater, Kinds, SeesDisks, SeesNotes, book, is_decided, is_top, new_book, IsKept, KnowsUp, Sane}
use Terms.{sane_lines, sane_new, IsDoneBy, IsPlain}
use Terms.machine
use Rattle.arj_law_disk_view.proofs.{deciding_lines.IdleKnown.KnowsIdle, deciding_lines.Steps.plain_more, view.Frames.node_here}
use Rattle.arj_law_parts.proofs.parts.TrueSteps.{work_there}
use Rattle.arj_law_runs.proofs.{journal.Books.open_is, journal.Models.named_in, kept.Walked.same_number}
use Rattle.arj_law_runs.specs.journal.Knows.{IsEnd, IsKnown, KnowsNode}

-- it stays so
pub done_later : (R : Seen → Type 0) (Idle : List Line → Uid → Type 0) (W V : machine.World) (N : Seen) (ls ks : List Line) (u : Uid) →
    KnowsIdle R Idle → R N → IsKept N → N.lines ≡ ls ++ ks → is_decided (book ls) u ≡ true → IsLater W V → IsDoneBy Idle W ls u →
    IsDoneBy Idle V N.lines u
done_later R Idle W V N ls ks u knows r kept is on later (inl d) = inl (later.decided (uid_number u) d)
done_later R Idle W V N ls ks u knows r kept is on later (inr (inl b)) = inr (inl (later.bare (uid_number u) b))
done_later R Idle W V N ls ks u knows r kept is on later (inr (inr (inl i))) = inr (inr (inl (knows.stays N r kept ls ks u is on i)))
done_later R Idle W V N ls ks u knows r kept is on later (inr (inr (inr p))) =
    inr (inr (inr (subst (λ l. IsPlain l u) (sym is) (plain_more ls ks u p))))

module _ (x : ℕ) (tops : Kinds) (R : Seen → Type 0) (Idle : List Line → Uid → Type 0) (idles : KnowsIdle R Idle) (k : ℕ) (d : Disk)
    (t : Parts) (N : Seen) (V : machine.World) (sees : SeesDisks x tops V (up k d t N)) where
  notes : SeesNotes x d.intents t.coord V
  notes =
      sees.notes k (record { number = k; disk = d; live = Some t }) t (node_here N k (record { number = k; disk = d; live = Some t })) refl

  -- an action that the coordinator has
  pub branch_done : R (up k d t N) → IsKept (up k d t N) → (u : Uid) (b : Branch) → branch_of u t.coord.tree ≡ Some b →
      is_decided (book N.lines) u ≡ true → IsDoneBy Idle V N.lines u
  branch_done r kept u b found done = by b.ended refl known.end
    where
      works : length t.coord.doings ≡ length t.coord.tree.branches
      works = let i = it 0 k d t N kept.0 in i.faithful.works

      does : doing_of u t.coord ≡ Some (work_there t.coord works u b found).0
      does = (work_there t.coord works u b found).1

      node : KnowsNode (book N.lines) k (record { number = k; disk = d; live = Some t })
      node = let w = kept.1 in
          w.nodes k (record { number = k; disk = d; live = Some t }) (node_here N k (record { number = k; disk = d; live = Some t }))

      known : IsKnown (book N.lines) u b.kind b.ended (let z = (work_there t.coord works u b found).0 in z.label)
      known = let l : KnowsUp (book N.lines) d.intents t.coord = node.live t refl in let s = l.knows in
          s.acts u b (work_there t.coord works u b found).0 found does

      sane : Sane (book N.lines)
      sane = sane_lines new_book N.lines (let w = kept.1 in w.right) sane_new

      top : b.ended ≡ Some ending.Commit → is_top b.kind ≡ true → (ns : List ℕ) →
          (let z = (work_there t.coord works u b found).0 in z.took) ≡ ns → IsDoneBy Idle V N.lines u
      top commit is [] took =
          inr (inr (inl (idles.alone k d t N r kept u b (work_there t.coord works u b found).0 found does commit is took)))
      top commit is (n ∷ ns) took = ⊎_elim (λ decided. inl decided) (λ bare. inr (inl bare)) (notes.taken u
          (work_there t.coord works u b found).0 n does (ap (λ l. order.has l n) took ∙ (λ i. same_number n i || order.has ns n)))

      by : (o : Option End) → b.ended ≡ o → IsEnd (book N.lines) u b.kind b.ended → IsDoneBy Idle V N.lines u
      by None is end = let o = subst (IsEnd (book N.lines) u b.kind) is end in
          absurd (never done (λ i. (open_is (book N.lines) u o.0).0 i || o.1 i))
      by (Some ending.Abort) is end = absurd (never (subst (IsEnd (book N.lines) u b.kind) is end) (sane.kept u done))
      by (Some ending.Commit) is end = ⊎_elim (λ yes. top is yes _ refl) (λ no. inr (inr (inr (
        known.act,
        in_to known.act (let B = book N.lines in B.acts) (named_in (let B = book N.lines in B.acts) _ known.act known.named),
        known.uid,
        ap is_top known.kind ∙ no,
      )))) (bool_cases (is_top b.kind))

  -- an action with its record on the disk, where it isn't open
  pub record_done : (u : Uid) (i : Intent) → at_uid u d.intents ≡ Some i → is_open u t.coord.tree ≡ false → IsDoneBy Idle V N.lines u
  record_done u i at closed = ⊎_elim (λ opened. absurd (never opened closed)) (λ settled. inl settled.done) (notes.settled u i at)

-- a coordinator that starts has no open action
pub none_open : (k inc : ℕ) (telling : List (Uid × Intent)) (u : Uid) →
    is_open u (let c = record (new_coord k inc) { telling = telling } in c.tree) ≡ false
none_open k inc telling u = by (_) u.num
  where
    by : (x : Bool) (j : ℕ) → is_open_branch (cond x (at_place j []) None) ≡ false
    by true zero = refl
    by true (suc j) = refl
    by false j = refl
