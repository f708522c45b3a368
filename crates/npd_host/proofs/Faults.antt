-- How a failed call more counts.
use Rattle.std.proofs.Common.{◌≡◌, ◌+◌, true, cond, ◌&&◌, List, [], ◌∷◌, ◌++◌, refl, ◌∙◌, arith}
use Rattle.std.proofs.lemmas.Slice.Eq.{bytes_eq-Decides}
use Rattle.std.proofs.lemmas.List.Sums.{sum_by-append}
use Rattle.std.specs.Str.{bytes_eq}
use Rattle.npd_host.specs.Host.{Rose}
use Rattle.npd_host.specs.MemHost.{same_kind, faults_in}
use Rattle.npd_host.specs.declared.memory.calls.FailedCall.{FailedCall}
use Rattle.npd_host.specs.declared.host.CallKind.{CallKind}
use Rattle.npd_host.specs.declared.host.CallKind.TheVariants.{OpenIn, Read, OpenOut, Write}

same_kind-same : (kind : CallKind) → same_kind kind kind ≡ true
same_kind-same OpenIn = refl
same_kind-same Read = refl
same_kind-same OpenOut = refl
same_kind-same Write = refl

faults_in-push : (failed : List FailedCall) (call : FailedCall) → faults_in (failed ++ call ∷ []) call.kind call.name ≡ faults_in failed call.kind call.name + 1
faults_in-push failed call =
    sum_by-append (λ (x : FailedCall). cond (same_kind x.kind call.kind && bytes_eq x.name call.name) 1 0) failed (call ∷ [])
    ∙ rw (same_kind-same call.kind, (bytes_eq-Decides call.name call.name).1 refl)

pub Rose-push : (failed : List FailedCall) (call : FailedCall) → Rose (faults_in failed call.kind call.name) (faults_in (failed ++ call ∷ []) call.kind call.name)
Rose-push failed call = rw (faults_in-push failed call) (omega arith)
