pub mod DescriptionsFound
pub mod WritesCarriedOut
pub mod WaitingCalls
