-- The leaves of a run, each with its context; the walk along next links is the walk along them.
-- Assumes nothing.
use mathlib.Core.Path.{◌≡◌, refl, ◌∙◌}
use mathlib.Core.Bool.{Bool, true, false}
use Rattle.store.specs.Pick.{pick}
use Rattle.leaf.specs.Rows.{Row}
use Rattle.theory_tree.specs.Pages.{leaf_page, Pages}
use Rattle.theory_tree.specs.Shape.{Shape, leaf, node, pair, first, Holds, All, LaterNotZero}
use mathlib.Core.List.{List, [], ◌∷◌, ◌++◌, map, map-append}
use Prim.Native.Nat.{ℕ}
use lib.Dec.{leb}
use Rattle.theory_tree.proofs.Workers.{leaves, from}
use Rattle.theory_tree.proofs.Contexts.{Ctx, in_l, in_r, under, plug, par_c, nxt_c, Loc}
use Rattle.theory_tree.proofs.Lists.{all_app, all_map}
use Rattle.theory_tree.proofs.Zip.{unplug_rep}

abbrev pub here : Loc → Shape
here l = leaf l.page l.cells

-- all leaves with their contexts; those from the search's leaf on
abbrev pub locs : Shape → Ctx → List Loc
locs (leaf p cs) c = (record { ctx = c; page = p; cells = cs }) ∷ []
locs (node p f) c = locs f (under p c)
locs (pair a k b) c = locs a (in_l k b c) ++ locs b (in_r a k c)

abbrev pub froms : ℕ → Shape → Ctx → List Loc
froms k (leaf p cs) c = (record { ctx = c; page = p; cells = cs }) ∷ []
froms k (node p f) c = froms k f (under p c)
froms k (pair a s b) c = pick (leb k s) (froms k a (in_l s b c) ++ locs b (in_r a s c)) (froms k b (in_r a s c))

abbrev pub cellss : List Loc → List (List Row)
cellss ls = map (λ l. l.cells) ls

pub locs_plug : (t : Shape) (c : Ctx) → All (λ l. plug l.ctx (here l) ≡ plug c t) (locs t c)
locs_plug (leaf p cs) c = (refl, tt)
locs_plug (node p f) c = locs_plug f (under p c)
locs_plug (pair a k b) c =
    all_app (λ l. plug l.ctx (here l) ≡ plug c (pair a k b)) (locs a (in_l k b c)) (locs b (in_r a k c)) (locs_plug a (in_l k b c)) (locs_plug b (in_r a k c))

pub froms_plug : (k : ℕ) (t : Shape) (c : Ctx) → All (λ l. plug l.ctx (here l) ≡ plug c t) (froms k t c)
froms_plug k (leaf p cs) c = (refl, tt)
froms_plug k (node p f) c = froms_plug k f (under p c)
froms_plug k (pair a s b) c = go (leb k s) (froms_plug k a (in_l s b c)) (froms_plug k b (in_r a s c))
  where
    P : Loc → Type 0
    P l = plug l.ctx (here l) ≡ plug c (pair a s b)

    go : (x : Bool) → All (λ l. plug l.ctx (here l) ≡ plug c (pair a s b)) (froms k a (in_l s b c))
        → All (λ l. plug l.ctx (here l) ≡ plug c (pair a s b)) (froms k b (in_r a s c))
        → All (λ l. plug l.ctx (here l) ≡ plug c (pair a s b)) (pick x (froms k a (in_l s b c) ++ locs b (in_r a s c)) (froms k b (in_r a s c)))
    go true i j = all_app (λ l. plug l.ctx (here l) ≡ plug c (pair a s b)) (froms k a (in_l s b c)) (locs b (in_r a s c)) i (locs_plug b (in_r a s c))
    go false i j = j

pub locs_cells : (t : Shape) (c : Ctx) → cellss (locs t c) ≡ leaves t
locs_cells (leaf p cs) c = refl
locs_cells (node p f) c = locs_cells f (under p c)
locs_cells (pair a k b) c = map-append (λ l. l.cells) (locs a (in_l k b c)) (locs b (in_r a k c)) ∙ rw (locs_cells a (in_l k b c), locs_cells b (in_r a k c))

pub froms_cells : (k : ℕ) (t : Shape) (c : Ctx) → cellss (froms k t c) ≡ from k t
froms_cells k (leaf p cs) c = refl
froms_cells k (node p f) c = froms_cells k f (under p c)
froms_cells k (pair a s b) c = go (leb k s) (froms_cells k a (in_l s b c)) (froms_cells k b (in_r a s c))
  where
    go : (x : Bool) → cellss (froms k a (in_l s b c)) ≡ from k a → cellss (froms k b (in_r a s c)) ≡ from k b
        → cellss (pick x (froms k a (in_l s b c) ++ locs b (in_r a s c)) (froms k b (in_r a s c))) ≡ pick x (from k a ++ leaves b) (from k b)
    go true i j = map-append (λ l. l.cells) (froms k a (in_l s b c)) (locs b (in_r a s c)) ∙ rw (i, locs_cells b (in_r a s c))
    go false i j = j

-- each leaf's next is the page of the one behind it; the last one's is z
abbrev pub head_page : List Loc → ℕ → ℕ
head_page [] z = z
head_page (l ∷ ls) z = l.page

abbrev pub Linked : ℕ → ℕ → List Loc → Type 0
Linked N z [] = Unit {0}
Linked N z (l ∷ ls) = (nxt_c N l.ctx ≡ head_page ls z) × Linked N z ls

pub linked_app : (N z : ℕ) (a b : List Loc) → Linked N (head_page b z) a → Linked N z b → Linked N z (a ++ b)
linked_app N z [] b h g = g
linked_app N z (l ∷ []) b h g = (h.0, g)
linked_app N z (l ∷ m ∷ a) b h g = (h.0, linked_app N z (m ∷ a) b h.1 g)

pub head_app : (a b : List Loc) (z : ℕ) → head_page (a ++ b) z ≡ head_page a (head_page b z)
head_app [] b z = refl
head_app (l ∷ a) b z = refl

pub locs_head : (t : Shape) (c : Ctx) (z : ℕ) → head_page (locs t c) z ≡ first t
locs_head (leaf p cs) c z = refl
locs_head (node p f) c z = locs_head f (under p c) z
locs_head (pair a k b) c z = head_app (locs a (in_l k b c)) (locs b (in_r a k c)) z ∙ locs_head a (in_l k b c) (head_page (locs b (in_r a k c)) z)

pub locs_linked : (N : ℕ) (t : Shape) (c : Ctx) → Linked N (nxt_c N c) (locs t c)
locs_linked N (leaf p cs) c = (refl, tt)
locs_linked N (node p f) c = locs_linked N f (under p c)
locs_linked N (pair a k b) c =
    linked_app N (nxt_c N c) (locs a (in_l k b c)) (locs b (in_r a k c)) (rw (locs_head b (in_r a k c) (nxt_c N c)) (locs_linked N a (in_l k b c))) (locs_linked N b (in_r a k c))

pub froms_linked : (N k : ℕ) (t : Shape) (c : Ctx) → Linked N (nxt_c N c) (froms k t c)
froms_linked N k (leaf p cs) c = (refl, tt)
froms_linked N k (node p f) c = froms_linked N k f (under p c)
froms_linked N k (pair a s b) c = go (leb k s) (froms_linked N k a (in_l s b c)) (froms_linked N k b (in_r a s c))
  where
    go : (x : Bool) → Linked N (first b) (froms k a (in_l s b c)) → Linked N (nxt_c N c) (froms k b (in_r a s c))
        → Linked N (nxt_c N c) (pick x (froms k a (in_l s b c) ++ locs b (in_r a s c)) (froms k b (in_r a s c)))
    go true i j = linked_app N (nxt_c N c) (froms k a (in_l s b c)) (locs b (in_r a s c)) (rw (locs_head b (in_r a s c) (nxt_c N c)) i) (locs_linked N b (in_r a s c))
    go false i j = j

-- page 0 is none but the first
abbrev pub Nz : List Loc → Type 0
Nz ls = All (λ l. l.page ≡ 0 → ⊥) ls

abbrev pub NzTail : List Loc → Type 0
NzTail [] = Unit {0}
NzTail (l ∷ ls) = Nz ls

nz_tail_app : (a b : List Loc) → NzTail a → Nz b → NzTail (a ++ b)
nz_tail_app [] [] h g = tt
nz_tail_app [] (l ∷ b) h g = g.1
nz_tail_app (l ∷ a) b h g = all_app (λ l. l.page ≡ 0 → ⊥) a b h g

pub locs_nz : (t : Shape) (c : Ctx) → (first t ≡ 0 → ⊥) → LaterNotZero t → Nz (locs t c)
locs_nz (leaf p cs) c o h = (o, tt)
locs_nz (node p f) c o h = locs_nz f (under p c) o h
locs_nz (pair a k b) c o h = all_app (λ l. l.page ≡ 0 → ⊥) (locs a (in_l k b c)) (locs b (in_r a k c)) (locs_nz a (in_l k b c) o h.0) (locs_nz b (in_r a k c) h.1 h.2)

pub froms_nz : (k : ℕ) (t : Shape) (c : Ctx) → LaterNotZero t → NzTail (froms k t c)
froms_nz k (leaf p cs) c h = tt
froms_nz k (node p f) c h = froms_nz k f (under p c) h
froms_nz k (pair a s b) c h = go (leb k s) (froms_nz k a (in_l s b c) h.0) (froms_nz k b (in_r a s c) h.2)
  where
    go : (x : Bool) → NzTail (froms k a (in_l s b c)) → NzTail (froms k b (in_r a s c))
        → NzTail (pick x (froms k a (in_l s b c) ++ locs b (in_r a s c)) (froms k b (in_r a s c)))
    go true i j = nz_tail_app (froms k a (in_l s b c)) (locs b (in_r a s c)) i (locs_nz b (in_r a s c) h.1 h.2)
    go false i j = j

-- the pool holds each of the leaves
abbrev pub Held : Pages → List Loc → Type 0
Held w ls = All (λ l. w l.page ≡ leaf_page (par_c 0 l.ctx) (nxt_c 0 l.ctx) l.cells) ls

pub held : (w : Pages) (t : Shape) (ls : List Loc) → Holds w 0 0 t → All (λ l. plug l.ctx (here l) ≡ t) ls → Held w ls
held w t ls r = all_map (λ l. plug l.ctx (here l) ≡ t) (λ l. w l.page ≡ leaf_page (par_c 0 l.ctx) (nxt_c 0 l.ctx) l.cells)
    (λ l e. (unplug_rep w 0 0 l.ctx (here l) (rw e r)).1) ls
