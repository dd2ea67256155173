-- From rings to the contour: one invariant of the stages, for any relation "b follows a at u" that keeps the rules of rings and triangles.
use mathlib.Core.Path.{◌≡◌, refl, sym, ap, ◌∙◌}
use mathlib.Core.Logic.{inl, inr}
use Prim.Native.Nat.{ℕ}
use mathlib.Core.List.{List, [], ◌∷◌, ◌++◌, append_assoc}
use Rattle.words.specs.Lists.{In, last_of, Head, Adj}
use Rattle.words.proofs.Lists.{Once, head_same, in_right, in_turn, in_dec, cut_at, adj_in_left, adj_in_right, adj_right, adj_left, adj_cases, stretch}
use Rattle.words.proofs.Lists.{head_one, head_is, swap_in, swap_once, once_next, last_append, before_last}

-- What the rings give. `F u a b`: b follows a at u.
pub record Rings (F : ℕ → ℕ → ℕ → Type 0) : Type 0 where
  pub next_one : (u a b c : ℕ) → F u a b → F u a c → b ≡ c
  pub next_is : (u a b : ℕ) → F u a b → (c : ℕ) × F u b c
  pub self : (u b : ℕ) → ¬ (F u u b)
  pub triangle : (u v w : ℕ) → F u v w → F v w u

-- The run of v, p ∷ (M ++ q ∷ []), when the posts of `done` are placed: each follows the one before it at v, all are placed, and no other
-- stretch of v's ring is: a placed entry that follows a waiting one is p, one that a waiting one follows is q, and one that follows a placed
-- one does so in the run, or is p after q.
pub record Run (F : ℕ → ℕ → ℕ → Type 0) (done : List ℕ) (v p : ℕ) (M : List ℕ) (q : ℕ) : Type 0 where
  pub chain : (a b : ℕ) → Adj (p ∷ (M ++ q ∷ [])) a b → F v a b
  pub placed : (a : ℕ) → In a (p ∷ (M ++ q ∷ [])) → In a done
  pub starts : (b c : ℕ) → F v b c → ¬ (In b done) → In c done → c ≡ p
  pub ends : (b c : ℕ) → F v b c → In b done → ¬ (In c done) → b ≡ q
  pub inner : (b c : ℕ) → F v b c → In b done → In c done → Adj (p ∷ (M ++ q ∷ p ∷ [])) b c

-- The contour K when the posts of `done` are placed, from v1 to v2; its circle is v2 ∷ K. A wire from a to b between placed posts
-- whose face on the left is open (its third corner waits) is a wire of the contour.
pub record Contour (F : ℕ → ℕ → ℕ → Type 0) (v1 v2 : ℕ) (done K : List ℕ) : Type 0 where
  pub first : Head K v1
  pub last : last_of v1 K ≡ v2
  pub once : Once K
  pub placed : (a : ℕ) → In a K → In a done
  pub wires : (a b : ℕ) → Adj K a b → (c : ℕ) × F a b c
  pub edge : (a b c : ℕ) → In a done → In b done → ¬ (In c done) → F a b c → Adj (v2 ∷ K) a b

-- only which posts are placed matters, and not in what order they are listed
pub same_placed : (F : ℕ → ℕ → ℕ → Type 0) (v1 v2 : ℕ) (done now K : List ℕ) → ((a : ℕ) → In a done → In a now) → ((a : ℕ) → In a now → In a done)
    → Contour F v1 v2 done K → Contour F v1 v2 now K
same_placed F v1 v2 done now K to back C = record {
  first = C.first;
  last = C.last;
  once = C.once;
  placed = λ a h. to a (C.placed a h);
  wires = C.wires;
  edge = λ a b c ha hb hc f. C.edge a b c (back a ha) (back b hb) (λ h. hc (to c h)) f;
}

module _ (F : ℕ → ℕ → ℕ → Type 0) (v1 v2 vn : ℕ) (R : Rings F) (outer : F v2 v1 vn) where
  start_edge : (a b c : ℕ) → In a (v1 ∷ v2 ∷ []) → In b (v1 ∷ v2 ∷ []) → F a b c → Adj (v2 ∷ v1 ∷ v2 ∷ []) a b
  start_edge a b c (inl ea) (inl eb) f = absurd (R.self v1 c (rw (ea, eb) at f))
  start_edge a b c (inl ea) (inr (inl eb)) f = inr (inl (sym ea, sym eb))
  start_edge a b c (inr (inl ea)) (inl eb) f = inl (sym ea, sym eb)
  start_edge a b c (inr (inl ea)) (inr (inl eb)) f = absurd (R.self v2 c (rw (ea, eb) at f))
  start_edge a b c (inl ea) (inr (inr x6)) f = elim x6 [ ]
  start_edge a b c (inr (inl ea)) (inr (inr x8)) f = elim x8 [ ]
  start_edge a b c (inr (inr x7)) _ f = elim x7 [ ]

  start_wires : (a b : ℕ) → Adj (v1 ∷ v2 ∷ []) a b → (c : ℕ) × F a b c
  start_wires a b (inl e) = rw (← e.0, ← e.1) (R.next_is v1 vn v2 (R.triangle v2 v1 vn outer))
  start_wires a b (inr (inl e)) = absurd e.1
  start_wires a b (inr (inr x'')) = elim x'' [ ]

  -- before the third post: v1, v2
  pub contour_start : Contour F v1 v2 (v1 ∷ v2 ∷ []) (v1 ∷ v2 ∷ [])
  contour_start = record {
    first = refl;
    last = refl;
    once = (elim [ inl e ↦ R.self v2 vn (rw e at outer) | inr h ↦ h ], (λ h. h, tt));
    placed = λ a h. h;
    wires = start_wires;
    edge = λ a b c ha hb hc f. start_edge a b c ha hb f;
  }

  module _ (done : List ℕ) (v p q : ℕ) (M : List ℕ) (new : ¬ (In v done)) (U : Run F done v p M q) where
    -- neighbours of a run are neighbours on the contour
    pub run_edge : (K : List ℕ) → Contour F v1 v2 done K → ¬ (Adj (p ∷ (M ++ q ∷ [])) v2 v1) → (a b : ℕ) → Adj (p ∷ (M ++ q ∷ [])) a b → Adj K a b
    run_edge K C cut a b h =
        go (C.edge a b v (U.placed a (adj_in_left a b (p ∷ (M ++ q ∷ [])) h)) (U.placed b (adj_in_right a b (p ∷ (M ++ q ∷ [])) h)) new
        (R.triangle v a b (U.chain a b h)))
      where
        go : Adj (v2 ∷ K) a b → Adj K a b
        go (inl e) = absurd (cut (rw (e.0, head_one K v1 b C.first e.1) h))
        go (inr i) = i

    -- a run is a stretch of the contour
    pub run_stretch : (K : List ℕ) → Contour F v1 v2 done K → ¬ (Adj (p ∷ (M ++ q ∷ [])) v2 v1) → (X Y : List ℕ) × (K ≡ X ++ p ∷ (M ++ q ∷ Y))
    run_stretch K C cut =
        let edge = run_edge K C cut in
        let m = head_is M q [] in
        let t = cut_at p K (adj_in_left p m.0 K (edge p m.0 (inl (refl, m.1)))) in
        let s = stretch K C.once (M ++ q ∷ []) t.0 p t.1 t.2 edge in
        (t.0, s.0, t.2 ∙ ap (λ (z : List ℕ). t.0 ++ p ∷ z) (s.1 ∙ append_assoc M (q ∷ []) s.0))

    -- the step: v takes the place of M on the contour
    module _ (X Y : List ℕ) (C : Contour F v1 v2 done (X ++ p ∷ (M ++ q ∷ Y))) where
      kept_edge : (a b c : ℕ) → In a (v ∷ done) → In b (v ∷ done) → ¬ (In c (v ∷ done)) → F a b c → Adj (v2 ∷ (X ++ p ∷ v ∷ q ∷ Y)) a b
      kept_edge a b c (inl ea) (inl eb) hc f = absurd (R.self v c (rw (ea, eb) at f))
      kept_edge a b c (inl ea) (inr hb) hc f =
          let eb : b ≡ q = U.ends b c (rw ea at f) hb (λ i. hc (inr i)) in
          rw (ea, eb) (adj_right v q (v2 ∷ X) (p ∷ v ∷ q ∷ Y) (inr (inl (refl, refl))))
      kept_edge a b c (inr ha) (inl eb) hc f =
          let ea : a ≡ p = U.starts c a (R.triangle a v c (rw eb at f)) (λ i. hc (inr i)) ha in
          rw (ea, eb) (adj_right p v (v2 ∷ X) (p ∷ v ∷ q ∷ Y) (inl (refl, refl)))
      kept_edge a b c (inr ha) (inr hb) hc f =
          adj_cases a b (v2 ∷ X) p (M ++ q ∷ Y) (adj_left a b (v2 ∷ X) p (v ∷ q ∷ Y))
          (adj_cases a b (p ∷ M) q Y
          (λ h. absurd (hc (inl (R.next_one a b c v f (R.triangle v a b (U.chain a b h))))))
          (λ h. adj_right a b (v2 ∷ X) (p ∷ v ∷ q ∷ Y) (inr (inr h))))
          (C.edge a b c ha hb (λ i. hc (inr i)) f)

      kept_wires : (a b : ℕ) → Adj (X ++ p ∷ v ∷ q ∷ Y) a b → (c : ℕ) × F a b c
      kept_wires a b = adj_cases a b X p (v ∷ q ∷ Y) (λ h. C.wires a b (adj_left a b X p (M ++ q ∷ Y) h)) go
        where
          go : Adj (p ∷ v ∷ q ∷ Y) a b → (c : ℕ) × F a b c
          go (inl e) =
              let m = head_is M q [] in
              rw (← e.0, ← e.1) (R.next_is p m.0 v (R.triangle v p m.0 (U.chain p m.0 (inl (refl, m.1)))))
          go (inr (inl e)) = let m = before_last p M q in rw (← e.0, ← e.1) (R.next_is v m.0 q (U.chain m.0 q m.1))
          go (inr (inr h)) = C.wires a b (adj_right a b X (p ∷ (M ++ q ∷ Y)) (adj_right a b (p ∷ M) (q ∷ Y) h))

      kept_first : Contour F v1 v2 (v ∷ done) (X ++ p ∷ v ∷ q ∷ Y)
      kept_first = record {
        first = head_same v1 X p (M ++ q ∷ Y) (v ∷ q ∷ Y) C.first;
        last = last_append v1 X p (v ∷ q ∷ Y) ∙ sym (last_append p M q Y) ∙ sym (last_append v1 X p (M ++ q ∷ Y)) ∙ C.last;
        once = swap_once p v q M Y X (λ h. new (C.placed v h)) C.once;
        placed = λ a. swap_in p v q M Y a X (λ e. inl e) (λ h. inr (C.placed a h));
        wires = kept_wires;
        edge = kept_edge;
      }

      pub contour_kept : Contour F v1 v2 (done ++ v ∷ []) (X ++ p ∷ v ∷ q ∷ Y)
      contour_kept =
          same_placed F v1 v2 (v ∷ done) (done ++ v ∷ []) (X ++ p ∷ v ∷ q ∷ Y) (λ a. in_turn a (v ∷ []) done) (λ a. in_turn a done (v ∷ [])) kept_first

    -- every placed neighbour of v is in its run
    pub run_all : (a b : ℕ) → F v a b → In a done → In a (p ∷ (M ++ q ∷ []))
    run_all a b f h = go (in_dec b done)
      where
        last : a ≡ q → In a (p ∷ (M ++ q ∷ []))
        last e = inr (in_right a M (q ∷ []) (inl e))

        go : Dec (In b done) → In a (p ∷ (M ++ q ∷ []))
        go (yes i) =
            adj_cases a b (p ∷ M) q (p ∷ []) (adj_in_left a b (p ∷ (M ++ q ∷ [])))
            (elim [ inl e ↦ last (sym e.0) | inr j ↦ absurd (elim j [ inl e ↦ e.1 | inr k ↦ k ]) ])
            (U.inner a b f h i)
        go (no n) = last (U.ends a b f h n)

    -- a run that is not vn's does not pass from v2 to v1
    pub run_no_turn : ¬ (v ≡ vn) → ¬ (Adj (p ∷ (M ++ q ∷ [])) v2 v1)
    run_no_turn ne h = ne (R.next_one v2 v1 v vn (R.triangle v v2 v1 (U.chain v2 v1 h)) outer)

  -- a new post all of whose neighbours are placed is vn
  module _ (done K : List ℕ) (C : Contour F v1 v2 done K) (v : ℕ) (new : ¬ (In v done)) (full : (a b : ℕ) → F v a b → In a done) where
    right : (a b : ℕ) → F v a b → (Adj K a b → v ≡ vn) → v ≡ vn
    right a b f k = go (C.edge a b v (full a b f) (let c = R.next_is v a b f in full b c.0 c.1) new (R.triangle v a b f))
      where
        go : Adj (v2 ∷ K) a b → v ≡ vn
        go (inl e) = R.next_one v2 v1 v vn (rw (e.0, head_one K v1 b C.first e.1) (R.triangle v a b f)) outer
        go (inr h) = k h

    to_the_end : (Z X : List ℕ) (a b : ℕ) → K ≡ X ++ a ∷ Z → F v a b → v ≡ vn
    to_the_end [] X a b e f = right a b f (λ h. absurd (once_next a b X [] (rw e at C.once) (rw e at h)))
    to_the_end (z ∷ Z) X a b e f =
        right a b f (λ h.
        let c = R.next_is v a b f in
        let ez : z ≡ b = once_next a b X (z ∷ Z) (rw e at C.once) (rw e at h) in
        to_the_end Z (X ++ a ∷ []) b c.0 (rw append_assoc (rw ez at e)) c.1)

    pub full_is_last : (a b : ℕ) → F v a b → v ≡ vn
    full_is_last a b f = right a b f (λ h. let t = cut_at a K (adj_in_left a b K h) in to_the_end t.1 t.0 a b t.2 f)
