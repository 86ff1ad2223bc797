-- Eight hashers side by side, place by place.
use Rattle.std.proofs.Common.{◌≡◌, ℕ, ◌+◌, ◌-◌, ◌%◌, ◌^◌, List, [], ◌∷◌, ◌++◌, map, length, take, drop, replicate, get_or, refl, ap, ◌∙◌, append-nil, length-append, length-drop, arith}
use Rattle.std.proofs.lemmas.Grind.{flat_map-append}
use Rattle.std.proofs.lemmas.List.{take_at, drop_all}
use Rattle.std.specs.List.{AllZip}
use borrow.Rule.Slice.PartMut.{put_mid}
use Rattle.hash.specs.Rows.{longer}
use Rattle.hash.specs.Value.{bytes_of}
use Rattle.compression.specs.Fips180.{compressed}
use Rattle.sha256.specs.Rows.{row_bytes}
use Rattle.sha256.specs.Streams.{tail, Absorbed, Holds}
use Rattle.sha256.specs.declared.stream.Sha256.{Sha256}
use Rattle.sha256.proofs.Absorbing.{length-tail, full}
use Rattle.sha256.proofs.Encoding.{length-bytes_of}

-- ---- a number that fills the block

pub second_half : (b d : List ℕ) → length b ≡ 64 → put_mid 32 32 b d ≡ take 32 b ++ d
second_half b d l = rw (drop_all 32 (drop 32 b) (omega (arith, length-drop 32 b)), append-nil) refl

half_full : (h b r m d : List ℕ) → Absorbed h b m → length m % 64 ≡ 32 → length d ≡ 32 → r ≡ compressed h (take 32 b ++ d) → Absorbed r (replicate 64 0) (m ++ d)
half_full h b r m d a half l is =
    let front : take 32 b ≡ tail m = ap (take 32) a.1 ∙ take_at (tail m) (replicate (64 - length m % 64) 0) 32 (length-tail m ∙ half) in
    rw is (full h (take 32 b ++ d) m d a.0 (omega arith) (ap (λ (xs : List ℕ). xs ++ d) front))

row_more : (row : List ℕ) (v : ℕ) → row_bytes (row ++ (v ∷ [])) ≡ row_bytes row ++ bytes_of v
row_more row v = flat_map-append bytes_of row (v ∷ []) ∙ ap (λ (xs : List ℕ). row_bytes row ++ xs) (append-nil (bytes_of v))

pub row_filled : (s t : Sha256) (row : List ℕ) (v : ℕ) → s.length % 64 ≡ 32 → Holds s (row_bytes row) → t.state ≡ compressed s.state (take 32 s.block ++ bytes_of v) →
    t.block ≡ replicate 64 0 → t.length ≡ (s.length + 32) % 2 ^ 64 → Holds t (row_bytes (row ++ (v ∷ [])))
unfolding Holds
row_filled s t row v half h is empty more =
    let m = row_bytes row in
    let long = length-bytes_of v in
    rw (row_more row v, empty) (
      omega (arith, h.0, length-append m (bytes_of v)),
      half_full s.state s.block t.state m (bytes_of v) h.1 (omega (arith, h.0)) long is,
    )

-- ---- lists of eight

module _ {S : Type 0} (holds : S → List ℕ → Type 0) where
  -- each has taken in a number more
  abbrev pub Takes : S → S → ℕ → Type 0
  Takes s t v = (row : List ℕ) → holds s row → holds t (row ++ (v ∷ []))

  pub longer_eight : {N : Type 0} (value : N → ℕ) (ss : List S) (ns : List N) (rows : List (List ℕ)) (d : S) (n₀ n₁ n₂ n₃ n₄ n₅ n₆ n₇ : N) (t₀ t₁ t₂ t₃ t₄ t₅ t₆ t₇ : S) → length ss ≡ 8 → length ns ≡ 8 → length rows ≡ 8 →
      Takes (get_or ss 0 d) t₀ (value (get_or ns 0 n₀)) → Takes (get_or ss 1 d) t₁ (value (get_or ns 1 n₁)) → Takes (get_or ss 2 d) t₂ (value (get_or ns 2 n₂)) →
      Takes (get_or ss 3 d) t₃ (value (get_or ns 3 n₃)) → Takes (get_or ss 4 d) t₄ (value (get_or ns 4 n₄)) → Takes (get_or ss 5 d) t₅ (value (get_or ns 5 n₅)) →
      Takes (get_or ss 6 d) t₆ (value (get_or ns 6 n₆)) → Takes (get_or ss 7 d) t₇ (value (get_or ns 7 n₇)) →
      AllZip holds ss rows → AllZip holds (t₀ ∷ t₁ ∷ t₂ ∷ t₃ ∷ t₄ ∷ t₅ ∷ t₆ ∷ t₇ ∷ []) (longer rows (map value ns))
  longer_eight value (s₀ ∷ s₁ ∷ s₂ ∷ s₃ ∷ s₄ ∷ s₅ ∷ s₆ ∷ s₇ ∷ []) (m₀ ∷ m₁ ∷ m₂ ∷ m₃ ∷ m₄ ∷ m₅ ∷ m₆ ∷ m₇ ∷ []) (r₀ ∷ r₁ ∷ r₂ ∷ r₃ ∷ r₄ ∷ r₅ ∷ r₆ ∷ r₇ ∷ []) d n₀ n₁ n₂ n₃ n₄ n₅ n₆ n₇ t₀ t₁ t₂ t₃ t₄ t₅ t₆ t₇ l m k
      f₀ f₁ f₂ f₃ f₄ f₅ f₆ f₇ (h₀, (h₁, (h₂, (h₃, (h₄, (h₅, (h₆, (h₇, z)))))))) =
      (f₀ r₀ h₀, (f₁ r₁ h₁, (f₂ r₂ h₂, (f₃ r₃ h₃, (f₄ r₄ h₄, (f₅ r₅ h₅, (f₆ r₆ h₆, (f₇ r₇ h₇, z))))))))
  longer_eight value ss ns rows d n₀ n₁ n₂ n₃ n₄ n₅ n₆ n₇ t₀ t₁ t₂ t₃ t₄ t₅ t₆ t₇ l m k f₀ f₁ f₂ f₃ f₄ f₅ f₆ f₇ h = absurd (omega arith)

  -- what is worked out of each is that of its row
  pub worked_eight : {V : Type 0} (of : List ℕ → V) (ss : List S) (rows : List (List ℕ)) (d : S) (v₀ v₁ v₂ v₃ v₄ v₅ v₆ v₇ : V) → length ss ≡ 8 → length rows ≡ 8 →
      ((row : List ℕ) → holds (get_or ss 0 d) row → v₀ ≡ of row) → ((row : List ℕ) → holds (get_or ss 1 d) row → v₁ ≡ of row) → ((row : List ℕ) → holds (get_or ss 2 d) row → v₂ ≡ of row) →
      ((row : List ℕ) → holds (get_or ss 3 d) row → v₃ ≡ of row) → ((row : List ℕ) → holds (get_or ss 4 d) row → v₄ ≡ of row) → ((row : List ℕ) → holds (get_or ss 5 d) row → v₅ ≡ of row) →
      ((row : List ℕ) → holds (get_or ss 6 d) row → v₆ ≡ of row) → ((row : List ℕ) → holds (get_or ss 7 d) row → v₇ ≡ of row) → AllZip holds ss rows →
      v₀ ∷ v₁ ∷ v₂ ∷ v₃ ∷ v₄ ∷ v₅ ∷ v₆ ∷ v₇ ∷ [] ≡ map of rows
  worked_eight of (s₀ ∷ s₁ ∷ s₂ ∷ s₃ ∷ s₄ ∷ s₅ ∷ s₆ ∷ s₇ ∷ []) (r₀ ∷ r₁ ∷ r₂ ∷ r₃ ∷ r₄ ∷ r₅ ∷ r₆ ∷ r₇ ∷ []) d v₀ v₁ v₂ v₃ v₄ v₅ v₆ v₇ l k f₀ f₁ f₂ f₃ f₄ f₅ f₆ f₇ h =
      let (h₀, (h₁, (h₂, (h₃, (h₄, (h₅, (h₆, (h₇, z)))))))) = h in
      λ i. f₀ r₀ h₀ i ∷ f₁ r₁ h₁ i ∷ f₂ r₂ h₂ i ∷ f₃ r₃ h₃ i ∷ f₄ r₄ h₄ i ∷ f₅ r₅ h₅ i ∷ f₆ r₆ h₆ i ∷ f₇ r₇ h₇ i ∷ []
  worked_eight of ss rows d v₀ v₁ v₂ v₃ v₄ v₅ v₆ v₇ l k f₀ f₁ f₂ f₃ f₄ f₅ f₆ f₇ h = absurd (omega arith)

-- numbers worked out of each of eight lists
pub mapped_eight : {V W : Type 0} (f : V → W) (vs : List V) (d : V) (n₀ n₁ n₂ n₃ n₄ n₅ n₆ n₇ : W) → length vs ≡ 8 → n₀ ≡ f (get_or vs 0 d) → n₁ ≡ f (get_or vs 1 d) → n₂ ≡ f (get_or vs 2 d) →
    n₃ ≡ f (get_or vs 3 d) → n₄ ≡ f (get_or vs 4 d) → n₅ ≡ f (get_or vs 5 d) → n₆ ≡ f (get_or vs 6 d) → n₇ ≡ f (get_or vs 7 d) →
    n₀ ∷ n₁ ∷ n₂ ∷ n₃ ∷ n₄ ∷ n₅ ∷ n₆ ∷ n₇ ∷ [] ≡ map f vs
mapped_eight f (v₀ ∷ v₁ ∷ v₂ ∷ v₃ ∷ v₄ ∷ v₅ ∷ v₆ ∷ v₇ ∷ []) d n₀ n₁ n₂ n₃ n₄ n₅ n₆ n₇ l e₀ e₁ e₂ e₃ e₄ e₅ e₆ e₇ = λ i. e₀ i ∷ e₁ i ∷ e₂ i ∷ e₃ i ∷ e₄ i ∷ e₅ i ∷ e₆ i ∷ e₇ i ∷ []
mapped_eight f vs d n₀ n₁ n₂ n₃ n₄ n₅ n₆ n₇ l e₀ e₁ e₂ e₃ e₄ e₅ e₆ e₇ = absurd (omega arith)
