-- Request A1, as the crate `kernel` proves it.
-- Assumes nothing.
use Rattle.kernel.proofs.Promise.{kernels}
use Rattle.kernel.proofs.Desk.{desk}
use Rattle.promises.specs.Kernels.{RequestA1}

pub request_a1 : RequestA1
request_a1 = (kernels, desk)
