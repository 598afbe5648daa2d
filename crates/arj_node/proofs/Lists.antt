-- Effects one behind the other: what goes out, what waits, the disk, and cuts.
use Rattle.std.proofs.Common.{◌≡◌, ◌∙◌, ℕ, ◌<◌, ◌==◌, Bool, true, false, cond, List, [], ◌∷◌, ◌++◌, refl, sym, ap, subst, arith, Some}
use Rattle.std.proofs.lemmas.List.{append-nil, append_assoc, map-append}
use Rattle.arj_core.specs.declared.output.Output.{Output}
use Rattle.arj_core.specs.Steps.{PutsOut, Said, Sent, seen, seen_of}
use Rattle.arj_node.specs.Outgoing.{loud}
use Rattle.arj_node.specs.Ran.{IsStoppedAt, disk_after, inward, outward}
use Rattle.arj_protocol.specs.Effect.{Disk, Effect, Say, Send, Do, Work, Stop, worked, stopped}
use Rattle.arj_protocol.specs.Ask.{frame_kind}
use Rattle.arj_protocol.specs.Node.{Parts, Ran, ran, first_done, first_queued}
use Rattle.arj_protocol.specs.World.{count_works, cut, behind_effect}

-- what the protocol's node ran
abbrev pub ran_so : ℕ → Parts → List Effect → Disk → Ran
ran_so n t es d = record { here = record { disk = disk_after es d; parts = t }; outs = outward n es; queue = inward n es }

pub ran_is : (n : ℕ) (t : Parts) (es : List Effect) (d : Disk) → ran n t es d ≡ ran_so n t es d
ran_is n t [] d = refl
ran_is n t (Say b ∷ es) d = ap (first_done (Say b)) (ran_is n t es d)
ran_is n t (Do w ∷ es) d = ap (first_done (Do w)) (ran_is n t es (worked w d))
ran_is n t (Send to m ∷ es) d =
    (λ i. cond (to == n) (first_queued m (ran_is n t es d i)) (first_done (Send to m) (ran_is n t es d i))) ∙ by (to == n)
  where
    by : (b : Bool) →
        cond b (first_queued m (ran_so n t es d)) (first_done (Send to m) (ran_so n t es d)) ≡ record {
          here =
              record { disk = disk_after es d; parts = t };
          outs =
              cond b (outward n es) (Send to m ∷ outward n es);
          queue = cond b (m ∷ inward n es) (inward n es);
        }
    by true = refl
    by false = refl

pub disk_behind : (es fs : List Effect) (d : Disk) → disk_after (es ++ fs) d ≡ disk_after fs (disk_after es d)
disk_behind [] fs d = refl
disk_behind (Say b ∷ es) fs d = disk_behind es fs d
disk_behind (Do w ∷ es) fs d = disk_behind es fs (worked w d)
disk_behind (Send to m ∷ es) fs d = disk_behind es fs d

pub out_behind : (n : ℕ) (es fs : List Effect) → outward n (es ++ fs) ≡ outward n es ++ outward n fs
out_behind n [] fs = refl
out_behind n (Say b ∷ es) fs = ap (λ rest. Say b ∷ rest) (out_behind n es fs)
out_behind n (Do w ∷ es) fs = ap (λ rest. Do w ∷ rest) (out_behind n es fs)
out_behind n (Send to m ∷ es) fs = (λ i. cond (to == n) (out_behind n es fs i) (Send to m ∷ out_behind n es fs i)) ∙ by (to == n)
  where
    by : (b : Bool) →
        cond b (outward n es ++ outward n fs) (Send to m ∷ outward n es ++ outward n fs) ≡ cond b (outward n es) (Send to m ∷ outward n es) ++ outward n fs
    by true = refl
    by false = refl

pub in_behind : (n : ℕ) (es fs : List Effect) → inward n (es ++ fs) ≡ inward n es ++ inward n fs
in_behind n [] fs = refl
in_behind n (Say b ∷ es) fs = in_behind n es fs
in_behind n (Do w ∷ es) fs = in_behind n es fs
in_behind n (Send to m ∷ es) fs = (λ i. cond (to == n) (m ∷ in_behind n es fs i) (in_behind n es fs i)) ∙ by (to == n)
  where
    by : (b : Bool) →
        cond b (m ∷ inward n es ++ inward n fs) (inward n es ++ inward n fs) ≡ cond b (m ∷ inward n es) (inward n es) ++ inward n fs
    by true = refl
    by false = refl

-- what goes out leaves the same disk
pub disk_outward : (n : ℕ) (es : List Effect) (d : Disk) → disk_after (outward n es) d ≡ disk_after es d
disk_outward n [] d = refl
disk_outward n (Say b ∷ es) d = disk_outward n es d
disk_outward n (Do w ∷ es) d = disk_outward n es (worked w d)
disk_outward n (Send to m ∷ es) d = by (to == n) (disk_outward n es d)
  where
    by : (b : Bool) → disk_after (outward n es) d ≡ disk_after es d →
        disk_after (cond b (outward n es) (Send to m ∷ outward n es)) d ≡ disk_after es d
    by true same = same
    by false same = same

-- ---- cuts

module _ (left : Disk → Type 0) where
  pub stopped_first : (es fs : List Effect) (d : Disk) (front : List Effect) → IsStoppedAt left es d front →
      IsStoppedAt left (es ++ fs) d front
  stopped_first es fs d front stop = record {
    work = stop.work;
    back = stop.back ++ fs;
    how = stop.how;
    are = ap (λ xs. xs ++ fs) stop.are ∙ append_assoc front (Do stop.work ∷ stop.back) fs;
    disk = stop.disk;
  }

  pub stopped_second : (es fs : List Effect) (d : Disk) (front : List Effect) → IsStoppedAt left fs (disk_after es d) front →
      IsStoppedAt left (es ++ fs) d (es ++ front)
  stopped_second es fs d front stop = record {
    work = stop.work;
    back = stop.back;
    how = stop.how;
    are = ap (λ xs. es ++ xs) stop.are ∙ sym (append_assoc es front (Do stop.work ∷ stop.back));
    disk = subst (λ e. left (stopped stop.how stop.work e)) (sym (disk_behind es front d)) stop.disk;
  }

  -- the same stop of what goes out
  pub stopped_outward : (n : ℕ) (es : List Effect) (d : Disk) (front : List Effect) → IsStoppedAt left es d front →
      IsStoppedAt left (outward n es) d (outward n front)
  stopped_outward n es d front stop = record {
    work = stop.work;
    back = outward n stop.back;
    how = stop.how;
    are = ap (outward n) stop.are ∙ out_behind n front (Do stop.work ∷ stop.back);
    disk = subst (λ e. left (stopped stop.how stop.work e)) (sym (disk_outward n front d)) stop.disk;
  }

-- the cut by its count of works
pub count_front : (front : List Effect) (w : Work) (back : List Effect) → count_works front < count_works (front ++ Do w ∷ back)
count_front [] w back = omega arith
count_front (Say b ∷ front) w back = count_front front w back
count_front (Send to m ∷ front) w back = count_front front w back
count_front (Do v ∷ front) w back = let more = count_front front w back in omega (arith, more)

pub cut_there : (front : List Effect) (w : Work) (back : List Effect) (how : Stop) (d : Disk) →
    cut (count_works front) how (front ++ Do w ∷ back) d ≡ record { outs = front; disk = stopped how w (disk_after front d) }
cut_there [] w back how d = refl
cut_there (Say b ∷ front) w back how d = ap (behind_effect (Say b)) (cut_there front w back how d)
cut_there (Send to m ∷ front) w back how d = ap (behind_effect (Send to m)) (cut_there front w back how d)
cut_there (Do v ∷ front) w back how d = ap (behind_effect (Do v)) (cut_there front w back how (worked v d))

-- ---- what is put out

pub seen_behind : (es fs : List Effect) → seen (es ++ fs) ≡ seen es ++ seen fs
seen_behind [] fs = refl
seen_behind (Say b ∷ es) fs = ap (λ rest. Said b ∷ rest) (seen_behind es fs)
seen_behind (Do w ∷ es) fs = seen_behind es fs
seen_behind (Send to m ∷ es) fs = ap (λ rest. Sent to (frame_kind m) (Some m) ∷ rest) (seen_behind es fs)

pub puts_none : (outs : List Output) → PutsOut [] outs outs
puts_none outs = record { added = []; are = sym (append-nil outs); seen_so = refl }

pub puts_more : (es fs : List Effect) (a b c : List Output) → PutsOut es a b → PutsOut fs b c → PutsOut (es ++ fs) a c
puts_more es fs a b c first then' = record {
  added = first.added ++ then'.added;
  are = then'.are ∙ (ap (λ outs. outs ++ then'.added) first.are ∙ append_assoc a first.added then'.added);
  seen_so = map-append seen_of first.added then'.added ∙ ((λ i. first.seen_so i ++ then'.seen_so i) ∙ sym (seen_behind es fs));
}

-- ---- work is seen by nobody

pub seen_loud : (n : ℕ) (es : List Effect) → seen (outward n es) ≡ seen (outward n (loud es))
seen_loud n [] = refl
seen_loud n (Say b ∷ es) = ap (λ rest. Said b ∷ rest) (seen_loud n es)
seen_loud n (Do w ∷ es) = seen_loud n es
seen_loud n (Send to m ∷ es) = by (to == n) (seen_loud n es)
  where
    by : (b : Bool) → seen (outward n es) ≡ seen (outward n (loud es)) →
        seen (cond b (outward n es) (Send to m ∷ outward n es)) ≡ seen (cond b (outward n (loud es)) (Send to m ∷ outward n (loud es)))
    by true same = same
    by false same = ap (λ rest. Sent to (frame_kind m) (Some m) ∷ rest) same

pub inward_loud : (n : ℕ) (es : List Effect) → inward n es ≡ inward n (loud es)
inward_loud n [] = refl
inward_loud n (Say b ∷ es) = inward_loud n es
inward_loud n (Do w ∷ es) = inward_loud n es
inward_loud n (Send to m ∷ es) = by (to == n) (inward_loud n es)
  where
    by : (b : Bool) → inward n es ≡ inward n (loud es) →
        cond b (m ∷ inward n es) (inward n es) ≡ cond b (m ∷ inward n (loud es)) (inward n (loud es))
    by true same = ap (λ rest. m ∷ rest) same
    by false same = same

-- effects that are put out without their work
pub puts_loud : (n : ℕ) (es : List Effect) (a b : List Output) → PutsOut (outward n (loud es)) a b → PutsOut (outward n es) a b
puts_loud n es a b puts = record { added = puts.added; are = puts.are; seen_so = puts.seen_so ∙ sym (seen_loud n es) }
