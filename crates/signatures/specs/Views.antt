-- The signature that is behind a view, and that a room holds. Assumes nothing: these are definitions.
use Rattle.std.specs.Prelude.{◌≡◌, map, take, drop}
use Rattle.hash.specs.Value.{value_of}
use Rattle.signatures.specs.Signatures.{Signature}
use Rattle.signatures.specs.declared.room.SignatureRoom.{SignatureRoom}
use Rattle.signatures.specs.declared.view.SignatureView.{SignatureView}

-- what a view shows
abbrev pub viewed : SignatureView → Signature
viewed v = record { key = v.key; parts = map value_of v.parts.now; others = map value_of v.others.now; path = map value_of v.path.now }

-- what a room holds: of each of its three rows the front that is in use
abbrev pub held : SignatureRoom → Signature
held m =
    record {
      key = m.key;
      parts = map value_of (take m.bits m.parts);
      others = map value_of (take m.bits m.others);
      path = map value_of (take m.levels m.path);
    }

-- a signature was made in a room: the room holds it, and what is not in use for it is as it was
abbrev pub MadeIn : Signature → (before after : SignatureRoom) → Type 0
MadeIn g m m₁ =
    (held m₁ ≡ g)
    × (drop m₁.bits m₁.parts ≡ drop m₁.bits m.parts)
    × (drop m₁.bits m₁.others ≡ drop m₁.bits m.others)
    × (drop m₁.levels m₁.path ≡ drop m₁.levels m.path)
