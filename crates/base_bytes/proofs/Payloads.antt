-- Payloads are read as the grammar says.
use Rattle.std.proofs.Common.{◌≡◌, ℕ, ◌≤◌, max, List, [], ◌++◌, length, Some, sym, ap, ◌∙◌, arith}
use Rattle.std.proofs.lemmas.List.{append-nil}
use Rattle.base_bytes.specs.Decoding.{value_at}
use Rattle.base_bytes.specs.Laws.{IsUnambiguous}
use Rattle.base_bytes.specs.Payload.{IsPayload, spelling}
use Rattle.base_bytes.specs.Reaching.{NoneReachesItself}
use Rattle.base_bytes.specs.declared.shapes.Shapes.{Shapes}
use Rattle.base_bytes.specs.declared.ty.Ty.{Ty}
use Rattle.base_bytes.specs.declared.value.Value.{Value}
use Rattle.base_bytes.proofs.Chains.{depth_within}
use Rattle.base_bytes.proofs.Codes.{IsReadBy, unambiguous}
use Rattle.base_bytes.proofs.Depths.{depth}
use Rattle.base_bytes.proofs.Formats.{AreBytes}
use Rattle.base_bytes.proofs.ValueFormats.{value_format}

module _ (shapes : Shapes) (ty : Ty) where
  pub is_payload : (n : ℕ) (bytes : List ℕ) → AreBytes bytes → (v : Value) → value_at shapes n ty bytes ≡ Some (v, []) → IsPayload shapes ty v bytes
  is_payload n bytes are v is =
      let t = (value_format shapes n ty).takes bytes (v, []) are is in
      record { typed = t.1.0; spelled = t.0 ∙ append-nil (spelling v) }

  read_by : (n : ℕ) (v : Value) (told : List ℕ) → depth v ≤ n → IsPayload shapes ty v told → IsReadBy (value_at shapes n ty) v told
  read_by n v told le is = record { found = λ rest. ap (λ bytes. value_at shapes n ty (bytes ++ rest)) is.spelled ∙ (value_format shapes n ty).again v rest (is.typed, le) }

  pub read_whole : NoneReachesItself shapes → (bytes : List ℕ) (v : Value) → IsPayload shapes ty v bytes → value_at shapes (length shapes.items) ty bytes ≡ Some (v, [])
  read_whole no_loop bytes v is =
      ap (value_at shapes (length shapes.items) ty) (sym (append-nil bytes)) ∙ (read_by (length shapes.items) v bytes (depth_within shapes no_loop v ty is.typed) is).found []

  pub payloads : IsUnambiguous (IsPayload shapes ty)
  payloads = unambiguous
      (λ x y told others is is_too.
      let n = max (depth x) (depth y) in
      (value_at shapes n ty, read_by n x told (omega arith) is, read_by n y others (omega arith) is_too))
      (λ x told others is is_too. is.spelled ∙ sym is_too.spelled)
