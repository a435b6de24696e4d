-- A handle may move to another thread, since a registry may, and so may the right to free its block.
use Rattle.bcs_calls.proofs.Steps.{full_share, lone, bare, Ptr, block_ptr, null_ptr, lies_at, shape, to, Global, Option, None, Some}
use Rattle.bcs_calls.proofs.Prelude.{Keyless, Exit, unchanged, leaves, hidden, under, IsSend, AllSend, Quiet, owning_send, part_keyless, struct_send, sendable, fields, exits_of, frees, holds, the_row, the_type}
use Rattle.std.proofs.alloc.Global.TheSendSync as allocator
use Rattle.bcs_calls.proofs.RegistrySend.{opened}
use Rattle.bcs_calls.proofs.Holdings.{R}

-- nothing that a handle owns names a thread
lies : (p : Ptr) (x : R.Denot) → Keyless (lies_at R full_share p x)
lies (block_ptr b o) x = part_keyless R opened full_share x b o
lies null_ptr x = tt

owned : (alloc : Global) (p : Ptr) (kept : Option R.Denot) → Keyless (holds alloc p kept)
owned alloc p None = tt
owned alloc p (Some x) = (lies p x, frees.frees alloc (bare (lone R.mir)) p)

quiet : {D X : Type 0} (into : D → X) (e : Exit X) → Quiet e → Quiet (hidden (under into e))
quiet into unchanged q = λ x w. tt
quiet into (leaves L l S s r) q = λ d. q (into d)

pub send : IsSend the_row
send =
    let all : AllSend (fields the_type) = (search sendable, (allocator.the_field_send, tt)) in
    owning_send the_type all (λ d. owned d.alloc d.pointer d.registry) (λ k. quiet (to the_type) (exits_of k (fields the_type)) ((struct_send (shape the_type) all).leaving k))
